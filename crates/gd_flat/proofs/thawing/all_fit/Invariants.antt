use Rattle.std.proofs.Common.{◌≡◌, ◌+◌, ◌*◌, ◌≤◌, drop, map}
use Rattle.std.specs.List.{list_all}
use Rattle.gd_prim.specs.History.{prims_of}
use Rattle.gd_tree.specs.Trees.{list_of, trees_of, trees_count}
use Rattle.gd_runs.specs.Owed as owed
use Rattle.gd_template.specs.Built.{view as template_view}
use Rattle.gd_trees.specs.View.{view, trees_view}
use Rattle.gd_flat.proofs.thawing.all_fit.Given as goal

abbrev pub invariant-loop-tree : goal.invariant-loop-tree
invariant-loop-tree g l =
    (list_all (owed.tree_fits (prims_of l.store) (template_view l.template)) (list_of (trees_view l.trees)) ≡ list_all (owed.tree_fits (prims_of l.store) (template_view l.template)) (map view (drop l.tree-index l.tree-items)))
    × ((l.fn.steps ≤ l.steps) × (l.steps + 4 * trees_count (trees_of (map view (drop l.tree-index l.tree-items))) ≤ l.fn.steps + 4 * trees_count (trees_view l.trees)))
