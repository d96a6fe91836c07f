use Rattle.std.proofs.Common.{length, refl}
use Rattle.std.proofs.lemmas.Option.{slice_get_read}
use Rattle.gd_store.proofs.Entered.{links_behind, links_entered}
use Rattle.gd_store.proofs.indexes.enter_links.Goals as goal

pub add-requires-clause-above : goal.add-requires-clause-above
add-requires-clause-above c =
    links_behind c.args.linkage.now c.reserve.new.self c.args.prims.now c.args.place c.index-prims-place.result c.requires.there c.requires.before c.reserve.ensures.same

pub returns-clause-ok : goal.returns-clause-ok
returns-clause-ok c =
    links_entered c.args.linkage.now c.reserve.new.self c.add.new.self c.args.prims.now c.args.place c.index-prims-place.result
    (slice_get_read c.args.prims.now (length c.args.prims.now) c.args.place c.index-prims-place.result refl c.requires.there c.index-prims-place.is)
    c.requires.there c.requires.before c.reserve.ensures.same c.add.ensures.ids
