use Rattle.std.proofs.Common.{option_map, ◌≡◌, ◌++◌, drop, filter}
use Rattle.gd_prim.specs.End.{places_with}
use Rattle.gd_prim.specs.History.{prims_of}
use Rattle.gd_defs.specs.Plan as plan
use Rattle.gd_growing.specs.State.{so_far}
use Rattle.gd_growing.specs.Scan.{is_wanted_at}
use Rattle.gd_growing.specs.Seen.{target_view}
use Rattle.gd_growing.proofs.answers.push_below.Given as goal

abbrev pub invariant-loop-k : goal.invariant-loop-k
invariant-loop-k l = l.links.items ++ filter (is_wanted_at (so_far l.growing) l.property l.object (option_map (λ t. target_view t.now) l.target)) (drop l.k (places_with (plan.asked_end l.property) l.object (prims_of l.growing.batches)))
    ≡ l.initial.links.items ++ filter (is_wanted_at (so_far l.growing) l.property l.object (option_map (λ t. target_view t.now) l.target)) (places_with (plan.asked_end l.property) l.object (prims_of l.growing.batches))
