use Rattle.std.proofs.Common.{length, refl}
use Rattle.std.proofs.lemmas.Option.{slice_get_read}
use Rattle.gd_store.proofs.Entered.{links_there, links_taken}
use Rattle.gd_store.proofs.indexes.take_out_links.Goals as goal

pub retract-requires : goal.retract-requires
retract-requires c =
    links_there c.args.linkage.now c.args.prims.now c.args.place c.index-prims-place.result
    (slice_get_read c.args.prims.now (length c.args.prims.now) c.args.place c.index-prims-place.result refl c.requires.there c.index-prims-place.is)
    c.requires.there c.requires.before

pub returns : goal.returns
returns c =
    links_taken c.args.linkage.now c.retract.new.self c.args.prims.now c.args.place c.index-prims-place.result
    (slice_get_read c.args.prims.now (length c.args.prims.now) c.args.place c.index-prims-place.result refl c.requires.there c.index-prims-place.is)
    c.requires.there c.requires.before c.retract.ensures
