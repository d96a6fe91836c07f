use Rattle.std.proofs.Common.{◌≡◌, drop, filter}
use Rattle.std.specs.List.{list_any}
use Rattle.gd_prim.specs.End.{places_with}
use Rattle.gd_prim.specs.History.{prims_of}
use Rattle.gd_defs.specs.Plan as plan
use Rattle.gd_defs.specs.Write.Parts as parts
use Rattle.gd_growing.specs.State.{so_far}
use Rattle.gd_growing.specs.Scan.{is_answer_at}
use Rattle.gd_growing.specs.Seen.{target_view}
use Rattle.gd_growing.proofs.target.some_below.Given as goal

abbrev pub invariant-loop-k : goal.invariant-loop-k
invariant-loop-k l = list_any (parts.is_target (so_far l.growing) l.property (target_view l.target)) (filter (is_answer_at (so_far l.growing) l.property l.object) (places_with (plan.asked_end l.property) l.object (prims_of l.growing.batches)))
    ≡ list_any (parts.is_target (so_far l.growing) l.property (target_view l.target)) (filter (is_answer_at (so_far l.growing) l.property l.object) (drop l.k (places_with (plan.asked_end l.property) l.object (prims_of l.growing.batches))))
