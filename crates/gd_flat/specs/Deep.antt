-- How deep trees lie within each other.
use Rattle.std.specs.Prelude.{ℕ, ◌+◌, ◌-◌, max, List, [], ◌∷◌, Bool, true, false, nat_le, if◌then◌else◌}
use Rattle.gd_tree.specs.Trees.{Tree, tree, Trees, no_trees, and_tree, TreeLists, no_lists, and_list}
use Rattle.gd_frozen.specs.declared.tree.Piece.{Piece}
use Rattle.gd_frozen.specs.declared.tree.Piece.TheVariants as piece

abbrev mutual
  -- so many lists lie one within the other below a tree
  pub tree_levels : Tree → ℕ
  tree_levels (tree p ls) = lists_levels ls

  pub trees_levels : Trees → ℕ
  trees_levels no_trees = 0
  trees_levels (and_tree t ts) = max (tree_levels t) (trees_levels ts)

  pub lists_levels : TreeLists → ℕ
  lists_levels no_lists = 0
  lists_levels (and_list ts ls) = max (1 + trees_levels ts) (lists_levels ls)

-- pieces below so many open lists come to so many
abbrev pub goes_deep : ℕ → ℕ → List Piece → Bool
goes_deep n d [] = false
goes_deep n d (piece.Place p ∷ ps) = goes_deep n d ps
goes_deep n d (piece.Opens ∷ ps) = if nat_le n (d + 1) then true else goes_deep n (d + 1) ps
goes_deep n d (piece.Closes ∷ ps) = goes_deep n (d - 1) ps
