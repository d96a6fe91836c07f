use Rattle.std.proofs.Common.{length, take, refl, sym, ◌∙◌, arith}
use Rattle.std.proofs.lemmas.Option.{slice_get_read}
use Rattle.gd_store.specs.Keys.{is_key_link, is_key_of}
use Rattle.gd_store.proofs.Entered.{length_front, above_where, keys_entered, keys_passed}
use Rattle.gd_store.proofs.indexes.enter_key.Goals as goal

pub add-requires-clause-above_keys : goal.add-requires-clause-above_keys
add-requires-clause-above_keys c = λ n is key text.
    above_where (is_key_link n key) (take c.args.place c.args.prims.now) _ c.args.place (c.requires.before.by_key n key) (sym (length_front c.args.prims.now c.args.place (omega arith)))

pub add-requires-clause-above_objects : goal.add-requires-clause-above_objects
add-requires-clause-above_objects c = λ o is.
    above_where (is_key_of o) (take c.args.place c.args.prims.now) _ c.args.place (c.requires.before.by_object o) (sym (length_front c.args.prims.now c.args.place (omega arith)))

pub returns-in_ok-add-clause-ok : goal.returns-in_ok-add-clause-ok
returns-in_ok-add-clause-ok c =
    keys_entered c.args.keys.now c.add.new.self c.args.prims.now c.args.place c.index-prims-place.result _
    (slice_get_read c.args.prims.now (length c.args.prims.now) c.args.place c.index-prims-place.result refl c.requires.there c.index-prims-place.is)
    c.requires.there (sym c.refers.ensures ∙ c.if-refers.true) c.text_of.ensures c.requires.before c.in_ok-add.ensures.by_key c.in_ok-add.ensures.by_object

pub returns-else-refers-clause-ok : goal.returns-else-refers-clause-ok
returns-else-refers-clause-ok c =
    keys_passed c.args.keys.now c.args.prims.now c.args.place c.index-prims-place.result
    (slice_get_read c.args.prims.now (length c.args.prims.now) c.args.place c.index-prims-place.result refl c.requires.there c.index-prims-place.is)
    (sym c.refers.ensures ∙ c.if-refers.false) c.requires.before
