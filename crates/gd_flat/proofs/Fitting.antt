-- Which trees fit a template, a list and a tree at a time.
use Rattle.std.proofs.Common.{◌≡◌, ◌∙◌, inl, inr, ℕ, suc, ◌+◌, ◌<◌, ◌==◌, List, [], ◌∷◌, Bool, true, false, ◌&&◌, ◌||◌, Option, Some, None, drop, length, get_or, map, refl, sym, ap, rules, add-one, drop-cons, arith}
use Rattle.std.specs.Prelude.{slice_get, option_and_then}
use Rattle.std.specs.Cmp.{both_ways}
use Rattle.std.specs.List.{list_all}
use Rattle.std.specs.Option.{option_to_list}
use Rattle.std.proofs.lemmas.Bool.{eq-eqb, eqb-true}
use Rattle.gd_prim.specs.declared.Primitive.{Primitive}
use Rattle.gd_prim.specs.Live.{end_at, refers, places_where}
use Rattle.gd_tree.specs.Trees as defs
use Rattle.gd_tree.specs.Trees.{list_of, place_of, trees_of, tree_lists_of}
use Rattle.gd_defs.specs.Template as template
use Rattle.gd_defs.specs.Template.{Hop, Template, meets_constraints, led_to}
use Rattle.gd_runs.specs.Owed.{is_among, tree_fits, lists_fit}
use Rattle.gd_order_laws.specs.Window.{In}
use Rattle.gd_trees.proofs.PassedOn.{place_there, there_place}
use Rattle.gd_template.specs.Built.{its_constraints, its_clauses}
use Rattle.gd_template.specs.View.{Parts, parts, clauses_view}
use Rattle.gd_template.specs.declared.template.Clause.{Clause}
use Rattle.gd_trees.specs.View.{view, trees_view}
use Rattle.gd_trees.specs.declared.tree.Tree.{Tree, out-Tree}
use Rattle.gd_trees.specs.declared.tree.Tree.TheFolds.{the_lemmas}
use Rattle.gd_trees.specs.declared.tree.Trees.{Trees, out-Trees}

-- ---- where a hop leads

among_true : (xs : List ℕ) (x : ℕ) → In x xs → is_among xs x ≡ true
among_true [] x here = absurd here
among_true (y ∷ xs) x (inl same) = ap (λ b. b || is_among xs x) (eq-eqb y x same)
among_true (y ∷ xs) x (inr there) = ap (λ b. (y == x) || b) (among_true xs x there) ∙ or_true (y == x)
  where
    or_true : (b : Bool) → (b || true) ≡ true
    or_true true = refl
    or_true false = refl

true_among : (xs : List ℕ) (x : ℕ) → is_among xs x ≡ true → In x xs
true_among [] x is = absurd (let none : false ≡ true = is in cc)
true_among (y ∷ xs) x is = by (y == x) refl is (true_among xs x)
  where
    by : (b : Bool) → (y == x) ≡ b → (b || is_among xs x) ≡ true → (is_among xs x ≡ true → In x xs) → In x (y ∷ xs)
    by true e all rest = inl (eqb-true y x e)
    by false e all rest = inr (rest all)

pub leads_links : (prims : List Primitive) (end : Primitive → Option ℕ) (from to : ℕ) (o : Option ℕ) → o ≡ end_at end prims to → refers o from ≡ is_among (places_where (λ p. refers (end p) from) prims) to
leads_links prims end from to o is = ap (λ v. refers v from) is ∙ both_ways (refers (end_at end prims to) from) (is_among (places_where (λ p. refers (end p) from) prims) to)
    (λ met. by (slice_get prims to) refl met)
    (λ met. let found = place_there (λ p. refers (end p) from) prims to (true_among (places_where (λ p. refers (end p) from) prims) to met) in ap (λ v. refers (option_and_then end v) from) found.1 ∙ found.2)
  where
    by : (v : Option Primitive) → slice_get prims to ≡ v → refers (option_and_then end v) from ≡ true → is_among (places_where (λ p. refers (end p) from) prims) to ≡ true
    by None e met = absurd (let none : false ≡ true = met in cc)
    by (Some x) e met = among_true (places_where (λ p. refers (end p) from) prims) to (there_place (λ p. refers (end p) from) prims to x e met)

pub leads_end : (o : Option ℕ) (to : ℕ) → refers o to ≡ is_among (option_to_list o) to
leads_end None to = refl
leads_end (Some p) to = by (p == to)
  where
    by : (b : Bool) → b ≡ (b || false)
    by true = refl
    by false = refl

-- ---- trees

pub tree_seen : (prims : List Primitive) (t : Template) (u : Tree) → tree_fits prims t (view u) ≡ (meets_constraints prims (its_constraints t) (out-Tree u).place && lists_fit prims (its_clauses t) (out-Tree u).place (tree_lists_of (map trees_view (out-Tree u).lists.items)))
tree_seen prims (template.template cs inner) u = ap (tree_fits prims (template.template cs inner)) (seen u)
  where
    seen : (t : Tree) → view t ≡ defs.tree (out-Tree t).place (tree_lists_of (map trees_view (out-Tree t).lists.items))
    seen t = search (rules, the_lemmas)

-- lists fit clauses one by one
abbrev fits_clause : List Primitive → ℕ → Parts → defs.Trees → Bool
fits_clause prims p c ts = list_all (λ u. is_among (led_to prims c.1 p) (place_of u) && tree_fits prims c.2 u) (list_of ts)

-- other numbers of lists do not
pub other_lengths : (prims : List Primitive) (cs : List Clause) (ls : List Trees) (p : ℕ) → (length cs ≡ length ls → ⊥) → lists_fit prims (clauses_view cs) p (tree_lists_of (map trees_view ls)) ≡ false
other_lengths prims [] [] p other = absurd (other refl)
other_lengths prims [] (l ∷ ls) p other = refl
other_lengths prims (c ∷ cs) [] p other = refl
other_lengths prims (c ∷ cs) (l ∷ ls) p other = by (fits_clause prims p (parts c) (trees_view l)) (other_lengths prims cs ls p (λ same. other (ap suc same)))
  where
    by : (b : Bool) → lists_fit prims (clauses_view cs) p (tree_lists_of (map trees_view ls)) ≡ false → (b && lists_fit prims (clauses_view cs) p (tree_lists_of (map trees_view ls))) ≡ false
    by true rest = rest
    by false rest = refl

clauses_left : (xs : List Clause) (i : ℕ) (x : Clause) → i < length xs → x ≡ get_or xs i x → drop i xs ≡ x ∷ drop (i + 1) xs
clauses_left xs i x within is = rw (add-one, drop-cons xs i x) (ap (λ y. y ∷ drop (suc i) xs) (sym is))

lists_left : (xs : List Trees) (i : ℕ) (x : Trees) → i < length xs → x ≡ get_or xs i x → drop i xs ≡ x ∷ drop (i + 1) xs
lists_left xs i x within is = rw (add-one, drop-cons xs i x) (ap (λ y. y ∷ drop (suc i) xs) (sym is))

trees_left : (xs : List Tree) (i : ℕ) (x : Tree) → i < length xs → x ≡ get_or xs i x → drop i xs ≡ x ∷ drop (i + 1) xs
trees_left xs i x within is = rw (add-one, drop-cons xs i x) (ap (λ y. y ∷ drop (suc i) xs) (sym is))

-- one list more
pub one_list : (prims : List Primitive) (cs : List Clause) (ls : List Trees) (p i : ℕ) (c : Clause) (l : Trees) (fits whole : Bool) → i < length cs → length cs ≡ length ls → c ≡ get_or cs i c → l ≡ get_or ls i l
    → fits ≡ list_all (λ u. is_among (led_to prims (parts c).1 p) (place_of u) && tree_fits prims (parts c).2 u) (list_of (trees_view l))
    → whole ≡ lists_fit prims (clauses_view (drop i cs)) p (tree_lists_of (map trees_view (drop i ls)))
    → whole ≡ (fits && lists_fit prims (clauses_view (drop (i + 1) cs)) p (tree_lists_of (map trees_view (drop (i + 1) ls))))
one_list prims cs ls p i c l fits whole within same ci li is was =
    was
    ∙ ap (λ xs. lists_fit prims (clauses_view xs) p (tree_lists_of (map trees_view (drop i ls)))) (clauses_left cs i c within ci)
    ∙ ap (λ xs. lists_fit prims (clauses_view (c ∷ drop (i + 1) cs)) p (tree_lists_of (map trees_view xs))) (lists_left ls i l (omega (arith, within, same)) li)
    ∙ ap (λ b. b && lists_fit prims (clauses_view (drop (i + 1) cs)) p (tree_lists_of (map trees_view (drop (i + 1) ls)))) (sym is)

-- one tree more
pub one_tree : (test : defs.Tree → Bool) (xs : List Tree) (i : ℕ) (x : Tree) (fits whole : Bool) → i < length xs → x ≡ get_or xs i x → fits ≡ test (view x) → whole ≡ list_all test (map view (drop i xs)) → whole ≡ (fits && list_all test (map view (drop (i + 1) xs)))
one_tree test xs i x fits whole within is same was = was ∙ ap (λ l. list_all test (map view l)) (trees_left xs i x within is) ∙ ap (λ b. b && list_all test (map view (drop (i + 1) xs))) (sym same)

pub trees_seen : (ts : Trees) → list_of (trees_view ts) ≡ map view (out-Trees ts).items.items
trees_seen ts = ap list_of (seen ts) ∙ listed (map view (out-Trees ts).items.items)
  where
    seen : (ts : Trees) → trees_view ts ≡ trees_of (map view (out-Trees ts).items.items)
    seen ts = search (rules, the_lemmas)

    listed : (us : List defs.Tree) → list_of (trees_of us) ≡ us
    listed [] = refl
    listed (u ∷ us) = ap (λ l. u ∷ l) (listed us)

-- the place of a tree
pub tree_place : (u : Tree) → place_of (view u) ≡ (out-Tree u).place
tree_place u = ap place_of (seen u)
  where
    seen : (t : Tree) → view t ≡ defs.tree (out-Tree t).place (tree_lists_of (map trees_view (out-Tree t).lists.items))
    seen t = search (rules, the_lemmas)
