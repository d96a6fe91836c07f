use Rattle.std.proofs.Common.{◌≡◌, ◌++◌, map, drop, true}
use Rattle.std.specs.Prelude.{codes}
use Rattle.gd_tree.specs.Trees.{trees_of, tree_lists_of}
use Rattle.gd_trees.specs.View.{view, trees_view}
use Rattle.gd_tplang.specs.Printed.{trees_from, lists_from}
use Rattle.gd_tplang.proofs.print.+print.Given as goal

abbrev pub invariant-push_lists-loop-trees : goal.invariant-push_lists-loop-trees
invariant-push_lists-loop-trees l = l.out.items ++ lists_from l.is_first (tree_lists_of (map trees_view (drop l.trees-index l.lists))) ≡ (l.fn.out.items ++ codes "(") ++ lists_from true (tree_lists_of (map trees_view l.lists))

abbrev pub invariant-push_trees-loop-tree : goal.invariant-push_trees-loop-tree
invariant-push_trees-loop-tree l = l.out.items ++ trees_from l.is_first (trees_of (map view (drop l.tree-index l.tree-items))) ≡ (l.fn.out.items ++ codes "[") ++ trees_from true (trees_of (map view l.tree-items))
