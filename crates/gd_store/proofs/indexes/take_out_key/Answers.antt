use Rattle.std.proofs.Common.{length, refl, sym, ◌∙◌}
use Rattle.std.proofs.lemmas.Option.{slice_get_read}
use Rattle.gd_store.proofs.Entered.{entry_some, key_last, object_last, keys_taken, keys_left}
use Rattle.gd_store.proofs.indexes.take_out_key.Goals as goal

pub retract-requires-clause-some_keys : goal.retract-requires-clause-some_keys
retract-requires-clause-some_keys c = λ n right key text.
    entry_some _ c.args.place (key_last c.args.keys.now c.args.prims.now c.args.place c.index-prims-place.result _ n key
    (slice_get_read c.args.prims.now (length c.args.prims.now) c.args.place c.index-prims-place.result refl c.requires.there c.index-prims-place.is)
    c.requires.there (sym c.refers.ensures ∙ c.if-refers.true) c.text_of.ensures c.requires.before right text)

pub retract-requires-clause-some_objects : goal.retract-requires-clause-some_objects
retract-requires-clause-some_objects c = λ o left.
    entry_some _ c.args.place (object_last c.args.keys.now c.args.prims.now c.args.place c.index-prims-place.result o
    (slice_get_read c.args.prims.now (length c.args.prims.now) c.args.place c.index-prims-place.result refl c.requires.there c.index-prims-place.is)
    c.requires.there (sym c.refers.ensures ∙ c.if-refers.true) c.requires.before left)

pub retract-requires-clause-same_last : goal.retract-requires-clause-same_last
retract-requires-clause-same_last c = λ n right key text o left.
    key_last c.args.keys.now c.args.prims.now c.args.place c.index-prims-place.result _ n key
    (slice_get_read c.args.prims.now (length c.args.prims.now) c.args.place c.index-prims-place.result refl c.requires.there c.index-prims-place.is)
    c.requires.there (sym c.refers.ensures ∙ c.if-refers.true) c.text_of.ensures c.requires.before right text
    ∙ sym (object_last c.args.keys.now c.args.prims.now c.args.place c.index-prims-place.result o
    (slice_get_read c.args.prims.now (length c.args.prims.now) c.args.place c.index-prims-place.result refl c.requires.there c.index-prims-place.is)
    c.requires.there (sym c.refers.ensures ∙ c.if-refers.true) c.requires.before left)

pub returns-then-refers : goal.returns-then-refers
returns-then-refers c =
    keys_taken c.args.keys.now c.retract.new.self c.args.prims.now c.args.place c.index-prims-place.result _
    (slice_get_read c.args.prims.now (length c.args.prims.now) c.args.place c.index-prims-place.result refl c.requires.there c.index-prims-place.is)
    (sym c.refers.ensures ∙ c.if-refers.true) c.text_of.ensures c.requires.before c.retract.ensures.by_key c.retract.ensures.by_object

pub returns-else-refers : goal.returns-else-refers
returns-else-refers c =
    keys_left c.args.keys.now c.args.prims.now c.args.place c.index-prims-place.result
    (slice_get_read c.args.prims.now (length c.args.prims.now) c.args.place c.index-prims-place.result refl c.requires.there c.index-prims-place.is)
    (sym c.refers.ensures ∙ c.if-refers.false) c.requires.before
