-- Parts of the texts of trees.
use Rattle.std.specs.Prelude.{ℕ, List, [], ◌++◌, Bool, true, false, codes}
use Rattle.gd_tree.specs.Trees.{Trees, no_trees, and_tree, TreeLists, no_lists, and_list}
use Rattle.gd_bytes.specs.Frozen.{tree_text, trees_text, more_trees, more_lists}

-- trees with semicolons between them, and one before them unless they are the first
abbrev pub trees_from : Bool → Trees → List ℕ
trees_from false ts = more_trees ts
trees_from true no_trees = []
trees_from true (and_tree t ts) = tree_text t ++ more_trees ts

-- lists of trees with commas between them, and one before them unless they are the first
abbrev pub lists_from : Bool → TreeLists → List ℕ
lists_from false ls = more_lists ls
lists_from true no_lists = []
lists_from true (and_list ts ls) = trees_text ts ++ more_lists ls

-- lists of trees in brackets, or nothing where there are none
abbrev pub lists_part : TreeLists → List ℕ
lists_part no_lists = []
lists_part (and_list ts ls) = codes "(" ++ (lists_from true (and_list ts ls) ++ codes ")")
