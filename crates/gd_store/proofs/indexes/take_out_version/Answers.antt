use Rattle.std.proofs.Common.{length, refl}
use Rattle.std.proofs.lemmas.Option.{slice_get_read}
use Rattle.gd_store.proofs.Entered.{is_there, previous_has, versions_taken, versions_left}
use Rattle.gd_store.proofs.indexes.take_out_version.Goals as goal

pub retract-requires : goal.retract-requires
retract-requires c =
    is_there _ c.args.place (previous_has c.args.versions.now c.args.prims.now c.args.place c.index-prims-place.result c.in-Some.previous
    (slice_get_read c.args.prims.now (length c.args.prims.now) c.args.place c.index-prims-place.result refl c.requires.there c.index-prims-place.is)
    c.requires.there c.requires.entered c.in-Some.is c.requires.before)

pub returns-in-Some : goal.returns-in-Some
returns-in-Some c =
    versions_taken c.args.versions.now c.retract.new.self c.args.prims.now c.args.place c.index-prims-place.result c.in-Some.previous
    (slice_get_read c.args.prims.now (length c.args.prims.now) c.args.place c.index-prims-place.result refl c.requires.there c.index-prims-place.is)
    c.requires.entered c.in-Some.is c.requires.before c.retract.ensures.successors

pub returns-in_default : goal.returns-in_default
returns-in_default c =
    versions_left c.args.versions.now c.args.prims.now c.args.place c.index-prims-place.result
    (slice_get_read c.args.prims.now (length c.args.prims.now) c.args.place c.index-prims-place.result refl c.requires.there c.index-prims-place.is)
    c.in_default.is c.requires.before
