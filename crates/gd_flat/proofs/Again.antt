-- The pieces of trees make these trees again.
use Rattle.std.proofs.Common.{◌≡◌, ◌∙◌, List, [], ◌∷◌, ◌++◌, ℕ, Option, Some, None, refl, sym, ap, append_assoc}
use Rattle.std.proofs.lemmas.List.{append-nil}
use Rattle.gd_tree.specs.Trees.{Tree, tree, Trees, no_trees, and_tree, TreeLists, no_lists, and_list, trees_of, list_of, tree_lists_of}
use Rattle.gd_frozen.specs.declared.tree.Piece.{Piece}
use Rattle.gd_frozen.specs.declared.tree.Piece.TheVariants as piece
use Rattle.gd_frozen.specs.Pieces.{tree_pieces, trees_pieces, lists_pieces, Open, Growing, settled, closed, grown, trees_in}

-- lists of trees as a list
abbrev listed : TreeLists → List Trees
listed no_lists = []
listed (and_list ts ls) = ts ∷ listed ls

lists_again : (ls : TreeLists) → tree_lists_of (listed ls) ≡ ls
lists_again no_lists = refl
lists_again (and_list ts ls) = ap (and_list ts) (lists_again ls)

trees_again : (ts : Trees) → trees_of (list_of ts) ≡ ts
trees_again no_trees = refl
trees_again (and_tree t ts) = ap (and_tree t) (trees_again ts)

-- what trees make behind what was made so far
abbrev behind : List Open → List Tree → Option (ℕ × List Trees) → Trees → Growing
behind os done last no_trees = record { outer = os; done = done; last = last }
behind os done last (and_tree (tree p ls) ts) = behind os (settled done last) (Some (p, listed ls)) ts

same_outer : (os : List Open) (done : List Tree) (last : Option (ℕ × List Trees)) (ts : Trees) → (behind os done last ts).outer ≡ os
same_outer os done last no_trees = refl
same_outer os done last (and_tree (tree p ls) ts) = same_outer os (settled done last) (Some (p, listed ls)) ts

all_settled : (os : List Open) (done : List Tree) (last : Option (ℕ × List Trees)) (ts : Trees) → (let g : Growing = behind os done last ts in settled g.done g.last) ≡ settled done last ++ list_of ts
all_settled os done last no_trees = sym (append-nil (settled done last))
all_settled os done last (and_tree (tree p ls) ts) =
    all_settled os (settled done last) (Some (p, listed ls)) ts
    ∙ append_assoc (settled done last) (tree p (tree_lists_of (listed ls)) ∷ []) (list_of ts)
    ∙ ap (λ (l : TreeLists). settled done last ++ (tree p l ∷ list_of ts)) (lists_again ls)

mutual
  grows_trees : (os : List Open) (done : List Tree) (last : Option (ℕ × List Trees)) (ts : Trees) (rest : List Piece)
      → grown (record { outer = os; done = done; last = last }) (trees_pieces ts ++ rest) ≡ grown (behind os done last ts) rest
  grows_trees os done last no_trees rest = refl
  grows_trees os done last (and_tree (tree p ls) ts) rest =
      ap (grown (record { outer = os; done = done; last = last })) (append_assoc (tree_pieces (tree p ls)) (trees_pieces ts) rest)
      ∙ grows_lists os (settled done last) p [] ls (trees_pieces ts ++ rest)
      ∙ grows_trees os (settled done last) (Some (p, listed ls)) ts rest

  grows_lists : (os : List Open) (done : List Tree) (p : ℕ) (ks : List Trees) (ls : TreeLists) (rest : List Piece)
      → grown (record { outer = os; done = done; last = Some (p, ks) }) (lists_pieces ls ++ rest) ≡ grown (record { outer = os; done = done; last = Some (p, ks ++ listed ls) }) rest
  grows_lists os done p ks no_lists rest = ap (λ (l : List Trees). grown (record { outer = os; done = done; last = Some (p, l) }) rest) (sym (append-nil ks))
  grows_lists os done p ks (and_list ts ls) rest =
      ap (grown (record { outer = o ∷ os; done = []; last = None })) (append_assoc (trees_pieces ts) (piece.Closes ∷ lists_pieces ls) rest)
      ∙ grows_trees (o ∷ os) [] None ts (piece.Closes ∷ (lists_pieces ls ++ rest))
      ∙ ap (λ (xs : List Open). grown (closed xs (settled g.done g.last)) (lists_pieces ls ++ rest)) (same_outer (o ∷ os) [] None ts)
      ∙ ap (λ (xs : List Tree). grown (closed (o ∷ os) xs) (lists_pieces ls ++ rest)) (all_settled (o ∷ os) [] None ts)
      ∙ ap (λ (l : Trees). grown (record { outer = os; done = done; last = Some (p, ks ++ l ∷ []) }) (lists_pieces ls ++ rest)) (trees_again ts)
      ∙ grows_lists os done p (ks ++ ts ∷ []) ls rest
      ∙ ap (λ (l : List Trees). grown (record { outer = os; done = done; last = Some (p, l) }) rest) (append_assoc ks (ts ∷ []) (listed ls))
    where
      o : Open
      o = record { done = done; place = p; lists = ks }

      g : Growing
      g = behind (o ∷ os) [] None ts

pub pieces_again : (ts : Trees) → trees_in (trees_pieces ts) ≡ ts
unfolding trees_in
pieces_again ts =
    ap trees_in (sym (append-nil (trees_pieces ts)))
    ∙ ap (λ (g : Growing). trees_of (settled g.done g.last)) (grows_trees [] [] None ts [])
    ∙ ap trees_of (all_settled [] [] None ts)
    ∙ trees_again ts

-- so they are flat
pub pieces_flat : (ps : List Piece) (ts : Trees) → ps ≡ trees_pieces ts → trees_pieces (trees_in ps) ≡ ps
pieces_flat ps ts is = ap (λ l. trees_pieces (trees_in l)) is ∙ ap trees_pieces (pieces_again ts) ∙ sym is

pub pieces_same : (ps : List Piece) (ts : Trees) → ps ≡ trees_pieces ts → trees_in ps ≡ ts
pieces_same ps ts is = ap trees_in is ∙ pieces_again ts
