-- The tree of a place behind others, as pieces.
use Rattle.std.proofs.Common.{◌≡◌, ◌∙◌, ℕ, List, [], ◌∷◌, ◌++◌, refl, sym, ap, append_assoc}
use Rattle.gd_tree.specs.Trees.{Tree, tree, Trees, no_trees, and_tree, no_lists, append}
use Rattle.gd_frozen.specs.declared.tree.Piece.{Piece}
use Rattle.gd_frozen.specs.declared.tree.Piece.TheVariants as piece
use Rattle.gd_frozen.specs.Pieces.{tree_pieces, trees_pieces, trees_in}
use Rattle.gd_flat.proofs.Again.{pieces_again}

one_behind : (ts : Trees) (p : ℕ) → trees_pieces (append ts (and_tree (tree p no_lists) no_trees)) ≡ trees_pieces ts ++ piece.Place p ∷ []
one_behind no_trees p = refl
one_behind (and_tree t ts) p = ap (λ l. tree_pieces t ++ l) (one_behind ts p) ∙ sym (append_assoc (tree_pieces t) (trees_pieces ts) (piece.Place p ∷ []))

-- pieces that are those of trees, and the piece of a place
grown_is : (old : List Piece) (p : ℕ) → trees_pieces (trees_in old) ≡ old → old ++ piece.Place p ∷ [] ≡ trees_pieces (append (trees_in old) (and_tree (tree p no_lists) no_trees))
grown_is old p flat = sym (one_behind (trees_in old) p ∙ ap (λ l. l ++ piece.Place p ∷ []) flat)

pub grown_same : (old ps : List Piece) (p : ℕ) → trees_pieces (trees_in old) ≡ old → ps ≡ old ++ piece.Place p ∷ [] → trees_in ps ≡ append (trees_in old) (and_tree (tree p no_lists) no_trees)
grown_same old ps p flat is = ap trees_in (is ∙ grown_is old p flat) ∙ pieces_again (append (trees_in old) (and_tree (tree p no_lists) no_trees))

pub grown_flat : (old ps : List Piece) (p : ℕ) → trees_pieces (trees_in old) ≡ old → ps ≡ old ++ piece.Place p ∷ [] → trees_pieces (trees_in ps) ≡ ps
grown_flat old ps p flat is = ap trees_pieces (grown_same old ps p flat is) ∙ sym (is ∙ grown_is old p flat)
