use Rattle.std.proofs.Common.{option_map, ◌<◌, ◌++◌, ℕ, length, filter, subst}
use Rattle.std.specs.List.{range_with_len}
use Rattle.gd_prim.specs.History.{prims_of}
use Rattle.gd_growing.specs.State.{so_far}
use Rattle.gd_growing.specs.Scan.{is_wanted_at}
use Rattle.gd_growing.specs.Seen.{target_view}
use Rattle.gd_growing.proofs.Answering.{range_goes_on}
use Rattle.gd_growing.proofs.answers.push_made.Goals as goal

pub loop-place-preserved : goal.loop-place-preserved
loop-place-preserved c =
    let state = c.args.growing.now in
    let test = is_wanted_at (so_far state) c.args.property.now c.args.object (option_map (λ t. target_view t.now) c.args.target) in
    let below = subst (λ (e : ℕ). c.loop-place.place < e) (c.place-place-end.ensures) c.loop-place-test.true in
    let within = subst (λ (e : ℕ). c.loop-place.place < e) c.end.ensures below in
    range_goes_on test c.loop-place.place (length (so_far state)) c.loop-place.links.items c.push_wanted.new.links.items
    (c.args.links.now.items ++ filter test (range_with_len (length (prims_of state.batches)) (length state.made)))
    within c.in_ok-push_wanted.ensures c.loop-place.invariant
