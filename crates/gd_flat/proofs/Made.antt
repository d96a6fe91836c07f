-- What pieces have made, a tree and a list at a time.
use Rattle.std.proofs.Common.{◌≡◌, ◌∙◌, List, [], ◌∷◌, ◌++◌, ℕ, Some, map, refl, ap}
use Rattle.std.specs.Prelude.{reverse}
use Rattle.std.proofs.lemmas.List.{reverse-append}
use Rattle.gd_tree.specs.Trees as defs
use Rattle.gd_trees.specs.View.{view}
use Rattle.gd_trees.specs.declared.tree.Tree.{Tree}
use Rattle.gd_frozen.specs.Pieces as pieces
use Rattle.gd_flat.specs.declared.growing.Opened.{Opened}
use Rattle.gd_flat.specs.Made.{open_of}

pub one_more : (ts us : List Tree) (t : Tree) (l : ℕ × List defs.Trees) → us ≡ ts ++ t ∷ [] → view t ≡ defs.tree l.0 (defs.tree_lists_of l.1) → map view us ≡ pieces.settled (map view ts) (Some l)
one_more ts us t l is made = ap (map view) is ∙ by ts ∙ ap (λ (u : defs.Tree). map view ts ++ u ∷ []) made
  where
    by : (ts : List Tree) → map view (ts ++ t ∷ []) ≡ map view ts ++ view t ∷ []
    by [] = refl
    by (x ∷ ts) = ap (λ r. view x ∷ r) (by ts)

pub opens_more : (xs ys : List Opened) (o : Opened) → ys ≡ xs ++ o ∷ [] → map open_of (reverse ys) ≡ open_of o ∷ map open_of (reverse xs)
opens_more xs ys o is = ap (λ l. map open_of (reverse l)) is ∙ ap (map open_of) (reverse-append xs (o ∷ []))
