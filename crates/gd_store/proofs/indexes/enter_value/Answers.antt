use Rattle.std.proofs.Common.{length, refl}
use Rattle.std.proofs.lemmas.Option.{slice_get_read}
use Rattle.gd_store.proofs.Valued.{value_above, values_entered}
use Rattle.gd_store.proofs.indexes.enter_value.Goals as goal

pub add-requires-clause-above : goal.add-requires-clause-above
add-requires-clause-above c = value_above c.args.values.now c.args.prims.now c.args.place c.index-prims-place.result c.requires.there c.requires.before

pub returns-clause-ok : goal.returns-clause-ok
returns-clause-ok c =
    values_entered c.args.values.now c.add.new.self c.args.prims.now c.args.place c.index-prims-place.result
    (slice_get_read c.args.prims.now (length c.args.prims.now) c.args.place c.index-prims-place.result refl c.requires.there c.index-prims-place.is)
    c.requires.there c.requires.before c.in_ok-add.ensures.lists c.in_ok-add.ensures.values
