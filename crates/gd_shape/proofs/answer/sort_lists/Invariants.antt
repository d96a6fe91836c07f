use Rattle.std.proofs.Common.{◌≡◌, drop}
use Rattle.gd_plan.specs.Asked.{members_view}
use Rattle.gd_runs.specs.Shape.Answers as shape
use Rattle.gd_shape.specs.InTrees.{lists_view}
use Rattle.gd_shape.proofs.answer.sort_lists.Given as goal

abbrev pub invariant-loop-member : goal.invariant-loop-member
invariant-loop-member l = shape.sort_lists (members_view (drop l.member-index l.members)) (lists_view l.left) ≡ shape.sort_lists (members_view l.members) (lists_view l.lists)
