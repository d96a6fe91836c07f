use Rattle.std.proofs.Common.{length, refl}
use Rattle.std.proofs.lemmas.Option.{slice_get_read}
use Rattle.gd_store.proofs.Valued.{value_there, value_last, values_taken}
use Rattle.gd_store.proofs.indexes.take_out_value.Goals as goal

pub retract-requires-clause-some : goal.retract-requires-clause-some
retract-requires-clause-some c =
    value_there c.args.values.now c.args.prims.now c.args.place c.index-prims-place.result
    (slice_get_read c.args.prims.now (length c.args.prims.now) c.args.place c.index-prims-place.result refl c.requires.there c.index-prims-place.is)
    c.requires.there c.requires.before

pub retract-requires-clause-last : goal.retract-requires-clause-last
retract-requires-clause-last c =
    value_last c.args.values.now c.args.prims.now c.args.place c.index-prims-place.result
    (slice_get_read c.args.prims.now (length c.args.prims.now) c.args.place c.index-prims-place.result refl c.requires.there c.index-prims-place.is)
    c.requires.there c.requires.before

pub returns : goal.returns
returns c =
    values_taken c.args.values.now c.retract.new.self c.args.prims.now c.args.place c.index-prims-place.result
    (slice_get_read c.args.prims.now (length c.args.prims.now) c.args.place c.index-prims-place.result refl c.requires.there c.index-prims-place.is)
    c.requires.there c.requires.before c.retract.ensures.lists c.retract.ensures.values
