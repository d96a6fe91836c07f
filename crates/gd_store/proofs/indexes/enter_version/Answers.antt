use Rattle.std.proofs.Common.{length, refl, arith}
use Rattle.std.proofs.lemmas.Option.{slice_get_read}
use Rattle.gd_store.proofs.Entered.{previous_small, previous_vacant, versions_entered, versions_passed}
use Rattle.gd_store.proofs.indexes.enter_version.Goals as goal

pub overflow_add-place : goal.overflow_add-place
overflow_add-place c =
    omega (
      arith,
      c.place.ensures,
      previous_small c.args.prims.now c.args.place c.index-prims-place.result c.in-Some.previous
          (slice_get_read c.args.prims.now (length c.args.prims.now) c.args.place c.index-prims-place.result refl c.requires.there c.index-prims-place.is)
          c.requires.there c.requires.entered c.in-Some.is,
    )

pub add-requires-clause-vacant : goal.add-requires-clause-vacant
add-requires-clause-vacant c =
    previous_vacant c.args.versions.now c.reserve.new.self c.args.prims.now c.args.place c.index-prims-place.result c.in-Some.previous
    (slice_get_read c.args.prims.now (length c.args.prims.now) c.args.place c.index-prims-place.result refl c.requires.there c.index-prims-place.is)
    c.requires.entered c.in-Some.is c.requires.before c.reserve.ensures.successors

pub returns-in_ok-reserve-clause-ok : goal.returns-in_ok-reserve-clause-ok
returns-in_ok-reserve-clause-ok c =
    versions_entered c.args.versions.now c.reserve.new.self c.add.new.self c.args.prims.now c.args.place c.index-prims-place.result c.in-Some.previous
    (slice_get_read c.args.prims.now (length c.args.prims.now) c.args.place c.index-prims-place.result refl c.requires.there c.index-prims-place.is)
    c.requires.there c.requires.entered c.in-Some.is c.requires.before c.reserve.ensures.successors c.add.ensures.successors

pub returns-in_default-clause-ok : goal.returns-in_default-clause-ok
returns-in_default-clause-ok c =
    versions_passed c.args.versions.now c.args.prims.now c.args.place c.index-prims-place.result
    (slice_get_read c.args.prims.now (length c.args.prims.now) c.args.place c.index-prims-place.result refl c.requires.there c.index-prims-place.is)
    c.in_default.is c.requires.before
