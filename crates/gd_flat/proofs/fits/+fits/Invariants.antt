use Rattle.std.proofs.Common.{◌≡◌, ◌+◌, ◌≤◌, ◌&&◌, drop, length, map, ◌*◌}
use Rattle.std.specs.List.{list_all}
use Rattle.gd_prim.specs.History.{prims_of}
use Rattle.gd_tree.specs.Trees.{list_of, place_of, tree_lists_of, trees_of, lists_count, trees_count}
use Rattle.gd_defs.specs.Template as defs
use Rattle.gd_runs.specs.Owed as owed
use Rattle.gd_template.specs.Built.{view as template_view}
use Rattle.gd_template.specs.View.{parts, clauses_view}
use Rattle.gd_trees.specs.View.{view, trees_view}
use Rattle.gd_flat.proofs.fits.+fits.Given as goal

abbrev pub invariant-lists_fit-loop-number : goal.invariant-lists_fit-loop-number
invariant-lists_fit-loop-number g l =
    (owed.lists_fit (prims_of l.store) (clauses_view l.clauses) l.place (tree_lists_of (map trees_view l.lists))
    ≡ owed.lists_fit (prims_of l.store) (clauses_view (drop l.number l.clauses)) l.place (tree_lists_of (map trees_view (drop l.number l.lists))))
    × ((length l.clauses ≡ length l.lists) × ((l.fn.steps ≤ l.steps) × (l.steps + 4 * lists_count (tree_lists_of (map trees_view (drop l.number l.lists))) ≤ l.fn.steps + 4 * lists_count (tree_lists_of (map trees_view l.lists)))))

abbrev pub invariant-trees_fit-loop-tree : goal.invariant-trees_fit-loop-tree
invariant-trees_fit-loop-tree g l =
    (list_all (λ u. owed.is_among (defs.led_to (prims_of l.store) (parts l.clause).1 l.place) (place_of u) && owed.tree_fits (prims_of l.store) (parts l.clause).2 u) (list_of (trees_view l.trees))
    ≡ list_all (λ u. owed.is_among (defs.led_to (prims_of l.store) (parts l.clause).1 l.place) (place_of u) && owed.tree_fits (prims_of l.store) (parts l.clause).2 u) (map view (drop l.tree-index l.tree-items)))
    × ((l.fn.steps ≤ l.steps) × (l.steps + 4 * trees_count (trees_of (map view (drop l.tree-index l.tree-items))) ≤ l.fn.steps + 4 * trees_count (trees_view l.trees)))

abbrev pub decreases-tree_fits : goal.decreases-tree_fits
decreases-tree_fits g l = 4 * defs.depth (template_view l.template.now)

abbrev pub decreases-lists_fit : goal.decreases-lists_fit
decreases-lists_fit g l = 4 * defs.clauses_depth (clauses_view l.clauses.now) + 3

abbrev pub decreases-trees_fit : goal.decreases-trees_fit
decreases-trees_fit g l = 4 * defs.depth (parts l.clause.now).2 + 2
