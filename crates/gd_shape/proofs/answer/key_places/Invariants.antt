use Rattle.std.proofs.Common.{◌≡◌, ◌++◌, map, drop}
use Rattle.gd_plan.specs.Seen.{sort_key_view}
use Rattle.gd_runs.specs.Shape.Answers as shape
use Rattle.gd_shape.specs.InTrees.{lists_view}
use Rattle.gd_shape.proofs.answer.key_places.Given as goal

abbrev pub invariant-loop-key : goal.invariant-loop-key
invariant-loop-key l = l.places.items ++ shape.key_places (map sort_key_view (drop l.key-index l.sort)) l.object (lists_view l.left) ≡ shape.key_places (map sort_key_view l.sort) l.object (lists_view l.lists)
