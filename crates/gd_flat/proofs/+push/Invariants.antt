use Rattle.std.proofs.Common.{◌≡◌, ◌++◌, map, drop}
use Rattle.gd_tree.specs.Trees.{trees_of, tree_lists_of}
use Rattle.gd_trees.specs.View.{view, trees_view}
use Rattle.gd_frozen.specs.Pieces.{tree_pieces, trees_pieces, lists_pieces}
use Rattle.gd_flat.proofs.+push.Given as goal

abbrev pub invariant-push_tree-loop-trees : goal.invariant-push_tree-loop-trees
invariant-push_tree-loop-trees l = l.out.items ++ lists_pieces (tree_lists_of (map trees_view (drop l.trees-index l.trees-items))) ≡ l.fn.out.items ++ tree_pieces (view l.fn.tree)

abbrev pub invariant-push_trees-loop-tree : goal.invariant-push_trees-loop-tree
invariant-push_trees-loop-tree l = l.out.items ++ trees_pieces (trees_of (map view (drop l.tree-index l.tree-items))) ≡ l.fn.out.items ++ trees_pieces (trees_view l.fn.trees)
