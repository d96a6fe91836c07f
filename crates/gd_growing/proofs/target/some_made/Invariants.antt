use Rattle.std.proofs.Common.{◌≡◌, ◌-◌, length, filter}
use Rattle.std.specs.List.{list_any, range_with_len}
use Rattle.gd_prim.specs.History.{prims_of}
use Rattle.gd_defs.specs.Write.Parts as parts
use Rattle.gd_growing.specs.State.{so_far}
use Rattle.gd_growing.specs.Scan.{is_answer_at}
use Rattle.gd_growing.specs.Seen.{target_view}
use Rattle.gd_growing.proofs.target.some_made.Given as goal

abbrev pub invariant-loop-place : goal.invariant-loop-place
invariant-loop-place l = list_any (parts.is_target (so_far l.growing) l.property (target_view l.target)) (filter (is_answer_at (so_far l.growing) l.property l.object) (range_with_len (length (prims_of l.growing.batches)) (length l.growing.made)))
    ≡ list_any (parts.is_target (so_far l.growing) l.property (target_view l.target)) (filter (is_answer_at (so_far l.growing) l.property l.object) (range_with_len l.place (length (so_far l.growing) - l.place)))
