-- Trees that fit a template are not deeper than it.
use Rattle.std.proofs.Common.{◌≡◌, ◌∙◌, inl, inr, ◌⊎◌, ⊎_elim, ℕ, suc, ◌+◌, ◌-◌, ◌<◌, ◌≤◌, List, [], ◌∷◌, ◌++◌, Bool, true, false, ◌&&◌, refl, sym, ap, subst, arith, append_assoc, drop, length, get_or, add-one, drop-cons}
use Rattle.std.specs.Prelude.{nat_le, if◌then◌else◌}
use Rattle.std.specs.List.{list_all}
use Rattle.std.proofs.lemmas.Bool.{and_parts, leb-true, le-leb}
use Rattle.std.proofs.lemmas.Bool.Decides.{nat_tests}
use Rattle.std.proofs.lemmas.List.{append-nil}
use Rattle.gd_prim.specs.declared.Primitive.{Primitive}
use Rattle.gd_tree.specs.Trees.{Tree, tree, Trees, no_trees, and_tree, TreeLists, no_lists, and_list, list_of, place_of}
use Rattle.gd_defs.specs.Template.{Template, template, Clauses, no_clauses, clause, depth, clauses_depth, led_to, meets_constraints}
use Rattle.gd_runs.specs.Owed.{is_among, tree_fits, lists_fit}
use Rattle.gd_frozen.specs.declared.tree.Piece.{Piece}
use Rattle.gd_frozen.specs.declared.tree.Piece.TheVariants as piece
use Rattle.gd_frozen.specs.Pieces.{tree_pieces, trees_pieces, lists_pieces, trees_in}
use Rattle.gd_flat.specs.Deep.{tree_levels, trees_levels, lists_levels, goes_deep}

back : (d : ℕ) → d + 1 - 1 ≡ d
back d = omega arith

mutual
  trees_deep : (n d : ℕ) (ts : Trees) (rest : List Piece) → goes_deep n d (trees_pieces ts ++ rest) ≡ true → (n ≤ d + trees_levels ts) ⊎ (goes_deep n d rest ≡ true)
  trees_deep n d no_trees rest deep = inr deep
  trees_deep n d (and_tree (tree p ls) ts) rest deep =
      ⊎_elim (λ less. inl (omega (arith, less)))
      (λ more. ⊎_elim (λ less. inl (omega (arith, less))) (λ far. inr far) (trees_deep n d ts rest more))
      (lists_deep n d ls (trees_pieces ts ++ rest) (subst (λ ps. goes_deep n d ps ≡ true) (append_assoc (tree_pieces (tree p ls)) (trees_pieces ts) rest) deep))

  lists_deep : (n d : ℕ) (ls : TreeLists) (rest : List Piece) → goes_deep n d (lists_pieces ls ++ rest) ≡ true → (n ≤ d + lists_levels ls) ⊎ (goes_deep n d rest ≡ true)
  lists_deep n d no_lists rest deep = inr deep
  lists_deep n d (and_list ts ls) rest deep =
      let split = opens (nat_le n (d + 1)) refl deep in
      ⊎_elim (λ less. inl (omega (arith, less)))
      (λ inner. ⊎_elim (λ less. inl (omega (arith, less)))
      (λ behind. ⊎_elim (λ less. inl (omega (arith, less))) (λ far. inr far)
      (lists_deep n d ls rest (subst (λ m. goes_deep n m (lists_pieces ls ++ rest) ≡ true) (back d) behind)))
      (trees_deep n (d + 1) ts (piece.Closes ∷ (lists_pieces ls ++ rest)) (subst (λ ps. goes_deep n (d + 1) ps ≡ true) (append_assoc (trees_pieces ts) (piece.Closes ∷ lists_pieces ls) rest) inner)))
      split
    where
      opens : (b : Bool) → nat_le n (d + 1) ≡ b → (if b then true else goes_deep n (d + 1) ((trees_pieces ts ++ (piece.Closes ∷ lists_pieces ls)) ++ rest)) ≡ true
          → (n ≤ d + 1) ⊎ (goes_deep n (d + 1) ((trees_pieces ts ++ (piece.Closes ∷ lists_pieces ls)) ++ rest) ≡ true)
      opens true is met = inl (leb-true n (d + 1) is)
      opens false is met = inr met

-- pieces that come so deep
pub deep_levels : (n : ℕ) (ps : List Piece) → trees_pieces (trees_in ps) ≡ ps → goes_deep n 0 ps ≡ true → n ≤ trees_levels (trees_in ps)
deep_levels n ps flat deep =
    ⊎_elim (λ less. omega (arith, less)) (λ none. absurd (let never : false ≡ true = none in cc))
    (trees_deep n 0 (trees_in ps) [] (subst (λ l. goes_deep n 0 l ≡ true) (sym (append-nil (trees_pieces (trees_in ps)) ∙ flat)) deep))

mutual
  fit_levels : (prims : List Primitive) (t : Template) (u : Tree) → tree_fits prims t u ≡ true → tree_levels u < depth t
  fit_levels prims (template cs inner) (tree p ls) fits =
      let few = lists_levels_few prims inner p ls (and_parts (meets_constraints prims cs p) (lists_fit prims inner p ls) fits).1 in
      omega (arith, few)

  lists_levels_few : (prims : List Primitive) (cs : Clauses) (p : ℕ) (ls : TreeLists) → lists_fit prims cs p ls ≡ true → lists_levels ls ≤ clauses_depth cs
  lists_levels_few prims no_clauses p no_lists fits = omega arith
  lists_levels_few prims no_clauses p (and_list ts ls) fits = absurd (let never : false ≡ true = fits in cc)
  lists_levels_few prims (clause mode hop t rest) p no_lists fits = absurd (let never : false ≡ true = fits in cc)
  lists_levels_few prims (clause mode hop t rest) p (and_list ts ls) fits =
      let parts = and_parts (list_all (λ u. is_among (led_to prims hop p) (place_of u) && tree_fits prims t u) (list_of ts)) (lists_fit prims rest p ls) fits in
      let one = among_levels prims hop t p ts parts.0 in
      let others = lists_levels_few prims rest p ls parts.1 in
      omega (arith, one, others)

  among_levels : (prims : List Primitive) (hop : Rattle.gd_defs.specs.Template.Hop) (t : Template) (p : ℕ) (ts : Trees) → list_all (λ u. is_among (led_to prims hop p) (place_of u) && tree_fits prims t u) (list_of ts) ≡ true → 1 + trees_levels ts ≤ depth t
  among_levels prims hop (template cs inner) p no_trees fits = omega arith
  among_levels prims hop t p (and_tree u ts) fits =
      let parts = and_parts (is_among (led_to prims hop p) (place_of u) && tree_fits prims t u) (list_all (λ v. is_among (led_to prims hop p) (place_of v) && tree_fits prims t v) (list_of ts)) fits in
      let one = fit_levels prims t u (and_parts (is_among (led_to prims hop p) (place_of u)) (tree_fits prims t u) parts.0).1 in
      let others = among_levels prims hop t p ts parts.1 in
      omega (arith, one, others)

all_levels : (prims : List Primitive) (t : Template) (ts : Trees) → list_all (tree_fits prims t) (list_of ts) ≡ true → trees_levels ts < depth t
all_levels prims (template cs inner) no_trees fits = omega arith
all_levels prims t (and_tree u ts) fits =
    let parts = and_parts (tree_fits prims t u) (list_all (tree_fits prims t) (list_of ts)) fits in
    let one = fit_levels prims t u parts.0 in
    let others = all_levels prims t ts parts.1 in
    omega (arith, one, others)

-- trees that are too deep do not fit
pub deep_fails : (prims : List Primitive) (t : Template) (n : ℕ) (ps : List Piece) → n ≡ depth t → trees_pieces (trees_in ps) ≡ ps → goes_deep n 0 ps ≡ true → list_all (tree_fits prims t) (list_of (trees_in ps)) ≡ false
deep_fails prims t n ps is flat deep = by (list_all (tree_fits prims t) (list_of (trees_in ps))) refl
  where
    by : (b : Bool) → list_all (tree_fits prims t) (list_of (trees_in ps)) ≡ b → b ≡ false
    by false met = refl
    by true met = let few = all_levels prims t (trees_in ps) met in let far = deep_levels n ps flat deep in absurd (omega (arith, is, few, far))

pub deep_fails_led : (prims : List Primitive) (hop : Rattle.gd_defs.specs.Template.Hop) (t : Template) (p n : ℕ) (ps : List Piece) → n ≡ depth t → trees_pieces (trees_in ps) ≡ ps → goes_deep n 0 ps ≡ true
    → list_all (λ u. is_among (led_to prims hop p) (place_of u) && tree_fits prims t u) (list_of (trees_in ps)) ≡ false
deep_fails_led prims hop t p n ps is flat deep = by (list_all (λ u. is_among (led_to prims hop p) (place_of u) && tree_fits prims t u) (list_of (trees_in ps))) refl
  where
    by : (b : Bool) → list_all (λ u. is_among (led_to prims hop p) (place_of u) && tree_fits prims t u) (list_of (trees_in ps)) ≡ b → b ≡ false
    by false met = refl
    by true met = let few = among_levels prims hop t p (trees_in ps) met in let far = deep_levels n ps flat deep in absurd (omega (arith, is, few, far))

-- ---- one piece at a time

pieces_left : (xs : List Piece) (i : ℕ) (x : Piece) → i < length xs → x ≡ get_or xs i x → drop i xs ≡ x ∷ drop (i + 1) xs
pieces_left xs i x within is = rw (add-one, drop-cons xs i x) (ap (λ y. y ∷ drop (suc i) xs) (sym is))

pub place_next : (ps : List Piece) (i n d p : ℕ) (x : Piece) (whole : Bool) → i < length ps → x ≡ get_or ps i x → x ≡ piece.Place p → whole ≡ goes_deep n d (drop i ps) → whole ≡ goes_deep n d (drop (i + 1) ps)
place_next ps i n d p x whole within is named was = was ∙ ap (goes_deep n d) (pieces_left ps i x within is) ∙ ap (λ y. goes_deep n d (y ∷ drop (i + 1) ps)) named

pub opens_next : (ps : List Piece) (i n d : ℕ) (x : Piece) (whole : Bool) → i < length ps → x ≡ get_or ps i x → x ≡ piece.Opens → whole ≡ goes_deep n d (drop i ps) → d + 1 < n → whole ≡ goes_deep n (d + 1) (drop (i + 1) ps)
opens_next ps i n d x whole within is opens was less =
    was ∙ ap (goes_deep n d) (pieces_left ps i x within is) ∙ ap (λ y. goes_deep n d (y ∷ drop (i + 1) ps)) opens
    ∙ ap (λ b. if b then true else goes_deep n (d + 1) (drop (i + 1) ps)) (below (d + 1) less)
  where
    below : (m : ℕ) → m < n → nat_le n m ≡ false
    below m few = grind (arith, nat_tests)

pub opens_far : (ps : List Piece) (i n d : ℕ) (x : Piece) (whole : Bool) → i < length ps → x ≡ get_or ps i x → x ≡ piece.Opens → whole ≡ goes_deep n d (drop i ps) → n ≤ d + 1 → whole ≡ true
opens_far ps i n d x whole within is opens was far =
    was ∙ ap (goes_deep n d) (pieces_left ps i x within is) ∙ ap (λ y. goes_deep n d (y ∷ drop (i + 1) ps)) opens
    ∙ ap (λ b. if b then true else goes_deep n (d + 1) (drop (i + 1) ps)) (le-leb n (d + 1) far)

pub closes_next : (ps : List Piece) (i n d : ℕ) (x : Piece) (whole : Bool) → i < length ps → x ≡ get_or ps i x → x ≡ piece.Closes → whole ≡ goes_deep n d (drop i ps) → whole ≡ goes_deep n (d - 1) (drop (i + 1) ps)
closes_next ps i n d x whole within is closes was = was ∙ ap (goes_deep n d) (pieces_left ps i x within is) ∙ ap (λ y. goes_deep n d (y ∷ drop (i + 1) ps)) closes
