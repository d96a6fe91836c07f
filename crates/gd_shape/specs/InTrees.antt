-- Lists of trees as they lie in a tree, and places as they lie in a list.
use Rattle.std.specs.Prelude.{List, map}
use Rattle.gd_tree.specs.Trees as defs
use Rattle.gd_tree.specs.Trees.{tree_lists_of}
use Rattle.gd_trees.specs.View.{trees_view}
use Rattle.gd_trees.specs.declared.tree.Trees.{Trees}

-- lists of trees, as the definitions have them
abbrev pub lists_view : List Trees → defs.TreeLists
lists_view lists = tree_lists_of (map trees_view lists)
