use Rattle.std.proofs.Common.{◌≡◌, true, map, drop}
use Rattle.gd_plan.specs.Asked.{members_view}
use Rattle.gd_runs.specs.Shape.{list_shape}
use Rattle.gd_trees.specs.View.{view as tree_view}
use Rattle.gd_shape.specs.Outcome.{written, items_written}
use Rattle.gd_shape.specs.Printed.{rows_print}
use Rattle.gd_shape.proofs.page.write_rows.Given as goal

abbrev pub invariant-loop-tree : goal.invariant-loop-tree
invariant-loop-tree l = record {
  printed : items_written l.out.tokens (rows_print l.sight (members_view l.members) (map tree_view (drop l.tree-index l.trees)) l.told)
      ≡ written l.fn.out.tokens (list_shape true (rows_print l.sight (members_view l.members) (map tree_view l.trees) l.fn.told));
  before : l.out.before ≡ l.fn.out.before;
}
