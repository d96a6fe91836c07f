-- Pieces of trees, one tree and one list at a time.
use Rattle.std.proofs.Common.{◌≡◌, ◌∙◌, ℕ, zero, suc, List, [], ◌∷◌, ◌++◌, drop, length, get_or, ◌<◌, ◌≤◌, ◌+◌, map, refl, sym, ap, arith, rules, add-one, drop-cons, append_assoc}
use Rattle.std.proofs.lemmas.List.{append-nil}
use Rattle.gd_tree.specs.Trees as trees
use Rattle.gd_tree.specs.Trees.{trees_of, tree_lists_of, lists_of}
use Rattle.gd_trees.specs.View.{view, trees_view}
use Rattle.gd_trees.specs.declared.tree.Tree.{Tree, out-Tree}
use Rattle.gd_trees.specs.declared.tree.Tree.TheFolds.{the_lemmas}
use Rattle.gd_trees.specs.declared.tree.Trees.{Trees, out-Trees}
use Rattle.gd_frozen.specs.declared.tree.Piece.{Piece}
use Rattle.gd_frozen.specs.declared.tree.Piece.TheVariants as piece
use Rattle.gd_frozen.specs.Pieces.{tree_pieces, trees_pieces, lists_pieces}

pub tree_seen : (t : Tree) → tree_pieces (view t) ≡ piece.Place (out-Tree t).place ∷ lists_pieces (tree_lists_of (map trees_view (out-Tree t).lists.items))
tree_seen t = ap tree_pieces (seen t)
  where
    seen : (t : Tree) → view t ≡ trees.tree (out-Tree t).place (tree_lists_of (map trees_view (out-Tree t).lists.items))
    seen t = search (rules, the_lemmas)

pub trees_seen : (ts : Trees) → trees_pieces (trees_view ts) ≡ trees_pieces (trees_of (map view (out-Trees ts).items.items))
trees_seen ts = ap trees_pieces (seen ts)
  where
    seen : (ts : Trees) → trees_view ts ≡ trees_of (map view (out-Trees ts).items.items)
    seen ts = search (rules, the_lemmas)

lists_left : (xs : List Trees) (i : ℕ) (x : Trees) → i < length xs → x ≡ get_or xs i x → drop i xs ≡ x ∷ drop (i + 1) xs
lists_left xs i x within is = rw (add-one, drop-cons xs i x) (ap (λ y. y ∷ drop (suc i) xs) (sym is))

trees_left : (xs : List Tree) (i : ℕ) (x : Tree) → i < length xs → x ≡ get_or xs i x → drop i xs ≡ x ∷ drop (i + 1) xs
trees_left xs i x within is = rw (add-one, drop-cons xs i x) (ap (λ y. y ∷ drop (suc i) xs) (sym is))

-- a list more
pub one_list : (xs : List Trees) (i : ℕ) (x : Trees) (out all : List Piece) → i < length xs → x ≡ get_or xs i x
    → out ++ lists_pieces (tree_lists_of (map trees_view (drop i xs))) ≡ all
    → (((out ++ piece.Opens ∷ []) ++ trees_pieces (trees_view x)) ++ piece.Closes ∷ []) ++ lists_pieces (tree_lists_of (map trees_view (drop (i + 1) xs))) ≡ all
one_list xs i x out all within is was =
    append_assoc ((out ++ piece.Opens ∷ []) ++ trees_pieces (trees_view x)) (piece.Closes ∷ []) rest
    ∙ append_assoc (out ++ piece.Opens ∷ []) (trees_pieces (trees_view x)) (piece.Closes ∷ rest)
    ∙ append_assoc out (piece.Opens ∷ []) (trees_pieces (trees_view x) ++ (piece.Closes ∷ rest))
    ∙ sym (ap (λ l. out ++ lists_pieces (tree_lists_of (map trees_view l))) (lists_left xs i x within is))
    ∙ was
  where
    rest : List Piece
    rest = lists_pieces (tree_lists_of (map trees_view (drop (i + 1) xs)))

-- a tree more
pub one_tree : (xs : List Tree) (i : ℕ) (x : Tree) (out all : List Piece) → i < length xs → x ≡ get_or xs i x
    → out ++ trees_pieces (trees_of (map view (drop i xs))) ≡ all
    → (out ++ tree_pieces (view x)) ++ trees_pieces (trees_of (map view (drop (i + 1) xs))) ≡ all
one_tree xs i x out all within is was =
    append_assoc out (tree_pieces (view x)) (trees_pieces (trees_of (map view (drop (i + 1) xs))))
    ∙ sym (ap (λ l. out ++ trees_pieces (trees_of (map view l))) (trees_left xs i x within is))
    ∙ was

-- all trees
pub trees_done : (xs : List Tree) (i : ℕ) (out all : List Piece) → length xs ≤ i → out ++ trees_pieces (trees_of (map view (drop i xs))) ≡ all → out ≡ all
trees_done xs i out all past was =
    sym (append-nil out) ∙ sym (ap (λ l. out ++ trees_pieces (trees_of (map view l))) (drop-past xs i past)) ∙ was
  where
    drop-past : (xs : List Tree) (i : ℕ) → length xs ≤ i → drop i xs ≡ []
    drop-past [] zero past = refl
    drop-past [] (suc i) past = refl
    drop-past (x ∷ xs) zero past = absurd (omega (arith, past))
    drop-past (x ∷ xs) (suc i) past = drop-past xs i (omega (arith, past))
