use Rattle.std.proofs.Common.{◌≡◌, ◌++◌, map, drop}
use Rattle.gd_match_laws.specs.Walks.{rows_listed}
use Rattle.gd_plan.specs.Asked.{members_view}
use Rattle.gd_trees.specs.View.{view as tree_view}
use Rattle.gd_shape.proofs.gather.objects_printed.Given as goal

abbrev pub invariant-loop-tree : goal.invariant-loop-tree
invariant-loop-tree l =
    l.objects.items ++ rows_listed l.sight (members_view l.asked.members.items) (map tree_view (drop l.tree-index l.trees)) ≡ rows_listed l.sight (members_view l.asked.members.items) (map tree_view l.trees)
