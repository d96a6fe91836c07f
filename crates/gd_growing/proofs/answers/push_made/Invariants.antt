use Rattle.std.proofs.Common.{option_map, ◌≡◌, ◌++◌, ◌-◌, length, filter}
use Rattle.std.specs.List.{range_with_len}
use Rattle.gd_prim.specs.History.{prims_of}
use Rattle.gd_growing.specs.State.{so_far}
use Rattle.gd_growing.specs.Scan.{is_wanted_at}
use Rattle.gd_growing.specs.Seen.{target_view}
use Rattle.gd_growing.proofs.answers.push_made.Given as goal

abbrev pub invariant-loop-place : goal.invariant-loop-place
invariant-loop-place l = l.links.items ++ filter (is_wanted_at (so_far l.growing) l.property l.object (option_map (λ t. target_view t.now) l.target)) (range_with_len l.place (length (so_far l.growing) - l.place))
    ≡ l.initial.links.items ++ filter (is_wanted_at (so_far l.growing) l.property l.object (option_map (λ t. target_view t.now) l.target)) (range_with_len (length (prims_of l.growing.batches)) (length l.growing.made))
