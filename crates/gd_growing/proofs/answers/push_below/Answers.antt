use Rattle.std.proofs.Common.{option_map, ◌≡◌, ◌++◌, List, Some, filter, subst}
use Rattle.std.specs.Prelude.{slice_get}
use Rattle.gd_prim.specs.declared.Batch.{Batch}
use Rattle.gd_prim.specs.declared.End.{End}
use Rattle.gd_prim.specs.End.{places_with}
use Rattle.gd_prim.specs.History.{prims_of}
use Rattle.gd_defs.specs.Plan as plan
use Rattle.gd_growing.specs.State.{so_far}
use Rattle.gd_growing.specs.Scan.{is_wanted_at}
use Rattle.gd_growing.specs.Seen.{target_view}
use Rattle.gd_growing.proofs.Answering.{left_goes_on}
use Rattle.gd_growing.proofs.answers.push_below.Goals as goal

pub loop-k-preserved : goal.loop-k-preserved
loop-k-preserved c =
    let state = c.args.growing.now in
    let property = c.args.property.now in
    let by_end = subst (λ (e : End). slice_get (places_with e c.args.object (prims_of c.below-below.result.now)) c.loop-k.k ≡ Some c.list_at-place.result) c.asked_end-end.ensures c.list_at-place.ensures.place in
    let at = subst (λ (b : List Batch). slice_get (places_with (plan.asked_end property) c.args.object (prims_of b)) c.loop-k.k ≡ Some c.list_at-place.result) c.below-below.ensures by_end in
    let test = is_wanted_at (so_far state) property c.args.object (option_map (λ t. target_view t.now) c.args.target) in
    left_goes_on test (places_with (plan.asked_end property) c.args.object (prims_of state.batches)) c.loop-k.k c.list_at-place.result c.loop-k.links.items c.push_wanted.new.links.items
    (c.args.links.now.items ++ filter test (places_with (plan.asked_end property) c.args.object (prims_of state.batches)))
    at c.in_ok-push_wanted.ensures c.loop-k.invariant
