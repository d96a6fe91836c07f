use Rattle.std.proofs.Common.{◌≡◌, ◌+◌, ◌≤◌, min, length, map, drop, true}
use Rattle.gd_tree.specs.Trees.{trees_of, tree_lists_of}
use Rattle.gd_trees.specs.View.{view, trees_view}
use Rattle.gd_tplang.specs.Printed.{trees_from, lists_from}
use Rattle.gd_tplang.proofs.length.+length.Given as goal

abbrev pub invariant-lists_length-loop-trees : goal.invariant-lists_length-loop-trees
invariant-lists_length-loop-trees l = record {
  small : l.total ≤ 18446744073709551615;
  left : min (l.total + length (lists_from l.is_first (tree_lists_of (map trees_view (drop l.trees-index l.lists))))) 18446744073709551615 ≡ min (2 + length (lists_from true (tree_lists_of (map trees_view l.lists)))) 18446744073709551615;
}

abbrev pub invariant-trees_length-loop-tree : goal.invariant-trees_length-loop-tree
invariant-trees_length-loop-tree l = record {
  small : l.total ≤ 18446744073709551615;
  left : min (l.total + length (trees_from l.is_first (trees_of (map view (drop l.tree-index l.tree-items))))) 18446744073709551615 ≡ min (2 + length (trees_from true (trees_of (map view l.tree-items)))) 18446744073709551615;
}
