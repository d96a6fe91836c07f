-- Walks of ids that were found.
use Rattle.std.proofs.Common.{◌≡◌, ◌≤◌, ◌<◌, ◌+◌, ◌-◌, min, ℕ, zero, suc, List, [], ◌∷◌, ◌++◌, length, take, drop, map, get_or, true, Bool, Option, Some, None, refl, ap, sym, subst, ◌∙◌, arith, append-nil}
use Rattle.std.specs.List.{list_all}
use Rattle.std.proofs.lemmas.Bool.{and_from}
use Rattle.std.proofs.lemmas.List.{length-drop, length-take}
use Rattle.std.proofs.lemmas.List.Folds.{list_all-append}
use Rattle.gd_prim.specs.declared.Primitive.{Primitive}
use Rattle.gd_prim.specs.Limits.{max_prims}
use Rattle.gd_bytes.specs.Frozen.{Walk, walk_in_bounds}
use Rattle.gd_frozen.specs.Meaning.{walk_of}
use Rattle.gd_frozen.specs.declared.frozen.Walk.{Walk as WalkAt}
use Rattle.gd_match_laws.specs.Walks.{Tell}
use Rattle.gd_runs.specs.Fitting.{walk_fits}
use Rattle.gd_runs.specs.Shape.{page_shape}
use Rattle.gd_runs.specs.Shape.Ids.{page_ids}
use Rattle.gd_shape.specs.Knowing.{known_at, walks_found, front_found, IsKnownOf, TellsId}
use Rattle.gd_shape.specs.Shaping.{asked_of, trees_in, walks_in, walks_told, listed_of, IsOf}
use Rattle.gd_shape.specs.declared.shape.Shape.{Shape}
use Rattle.gd_shape.proofs.Left.{left_at, past}
use Rattle.gd_shape.proofs.Telling.{more_print}

-- ---- one after another

-- one more is found
pub walk_found : (ids : List (ℕ × WalkAt)) (os : List ℕ) (i o : ℕ) (walk again : WalkAt) (old new : List WalkAt) (all : List Walk) → i < length os → o ≡ get_or os i o → known_at ids o ≡ Some walk → walk_of again ≡ walk_of walk
    → new ≡ old ++ again ∷ [] → map walk_of old ++ walks_found ids (drop i os) ≡ all → map walk_of new ++ walks_found ids (drop (i + 1) os) ≡ all
walk_found ids os i o walk again old new all within is known same pushed was =
    ap (λ ws. map walk_of ws ++ walks_found ids (drop (i + 1) os)) pushed ∙ one old
    ∙ ap (λ w. map walk_of old ++ w ∷ walks_found ids (drop (i + 1) os)) same ∙ sym front ∙ was
  where
    one : (ws : List WalkAt) → map walk_of (ws ++ again ∷ []) ++ walks_found ids (drop (i + 1) os) ≡ map walk_of ws ++ walk_of again ∷ walks_found ids (drop (i + 1) os)
    one [] = refl
    one (w ∷ ws) = ap (λ l. walk_of w ∷ l) (one ws)

    front : map walk_of old ++ walks_found ids (drop i os) ≡ map walk_of old ++ walk_of walk ∷ walks_found ids (drop (i + 1) os)
    front = ap (λ us. map walk_of old ++ walks_found ids us) (left_at os i o within is) ∙ rw known refl

-- one is not known
pub walk_unknown : (ids : List (ℕ × WalkAt)) (os : List ℕ) (i o : ℕ) (ws all : List Walk) → i < length os → o ≡ get_or os i o → known_at ids o ≡ None → ws ++ walks_found ids (drop i os) ≡ all → ws ≡ all
walk_unknown ids os i o ws all within is unknown was = sym (append-nil ws) ∙ sym none ∙ was
  where
    none : ws ++ walks_found ids (drop i os) ≡ ws ++ []
    none = ap (λ us. ws ++ walks_found ids us) (left_at os i o within is) ∙ rw unknown refl

-- all are found
pub walks_all : (ids : List (ℕ × WalkAt)) (os : List ℕ) (i : ℕ) (ws all : List Walk) → length os ≤ i → ws ++ walks_found ids (drop i os) ≡ all → ws ≡ all
walks_all ids os i ws all end was = sym (append-nil ws) ∙ ap (λ us. ws ++ walks_found ids us) (sym (past os i end)) ∙ was

-- ---- what they tell

module _ (prims : List Primitive) (ids : List (ℕ × WalkAt)) (known : IsKnownOf prims ids) where
  first_tell : (m : ℕ) (os : List ℕ) → Tell prims (walks_found ids (take m os)) os
  first_tell zero os = tt
  first_tell (suc m) [] = tt
  first_tell (suc m) (o ∷ os) = by (known_at ids o) refl (first_tell m os)
    where
      by : (found : Option WalkAt) → known_at ids o ≡ found → Tell prims (walks_found ids (take m os)) os → Tell prims (front_found found (walks_found ids (take m os))) (o ∷ os)
      by None is rest = tt
      by (Some walk) is rest = ((known o walk is).spells, rest)

  found_tell : (n m : ℕ) (os : List ℕ) → Tell prims (walks_found ids (drop n (take m os))) (drop n os)
  found_tell zero m os = first_tell m os
  found_tell (suc n) zero os = tt
  found_tell (suc n) (suc m) [] = tt
  found_tell (suc n) (suc m) (o ∷ os) = found_tell n m os

  found_all : (p : Walk → Bool) → ((o : ℕ) (w : Walk) → TellsId prims o w → p w ≡ true) → (os : List ℕ) → list_all p (walks_found ids os) ≡ true
  found_all p each [] = refl
  found_all p each (o ∷ os) = by (known_at ids o) refl (found_all p each os)
    where
      by : (found : Option WalkAt) → known_at ids o ≡ found → list_all p (walks_found ids os) ≡ true → list_all p (front_found found (walks_found ids os)) ≡ true
      by None is rest = refl
      by (Some walk) is rest = and_from (p (walk_of walk)) (list_all p (walks_found ids os)) (each o (walk_of walk) (known o walk is)) rest

found_few : (ids : List (ℕ × WalkAt)) (os : List ℕ) → length (walks_found ids os) ≤ length os
found_few ids [] = omega arith
found_few ids (o ∷ os) = by (known_at ids o) (found_few ids os)
  where
    by : (found : Option WalkAt) → length (walks_found ids os) ≤ length os → length (front_found found (walks_found ids os)) ≤ suc (length os)
    by None few = omega arith
    by (Some walk) few = omega (arith, few)

-- ---- of a page

module _ (prims : List Primitive) (s : Shape) (of : IsOf prims s) where
  abbrev started : ℕ
  started = length (walks_in s)

  abbrev found : List Walk
  found = walks_found s.ids (drop started (take s.most s.objects.items))

  -- LAW: with the walks that are told a page prints the same
  pub told_print : page_shape prims (asked_of s) (trees_in s) (walks_told s) ≡ page_shape prims (asked_of s) (trees_in s) (walks_in s)
  told_print = more_print prims (asked_of s) (trees_in s) (walks_in s) found
      (subst (λ os. Tell prims (walks_found s.ids (drop started os)) (drop started (listed_of prims s))) (sym of.first) (found_tell prims s.ids of.known started s.most (listed_of prims s)))

  told_all : (p : Walk → Bool) → ((o : ℕ) (w : Walk) → TellsId prims o w → p w ≡ true) → list_all p (walks_in s) ≡ true → list_all p (walks_told s) ≡ true
  told_all p each fit = list_all-append p (walks_in s) found ∙ and_from (list_all p (walks_in s)) (list_all p found) fit (found_all prims s.ids of.known p each (drop started (take s.most s.objects.items)))

  -- LAW: they fit where those fit with which it was started
  pub told_fit : list_all (walk_fits prims) (walks_in s) ≡ true → list_all (walk_fits prims) (walks_told s) ≡ true
  told_fit = told_all (walk_fits prims) (λ o w tells. tells.fits)

  -- LAW: and lie within the bounds of texts
  pub told_bounds : length prims ≤ max_prims → list_all walk_in_bounds (walks_in s) ≡ true → list_all walk_in_bounds (walks_told s) ≡ true
  told_bounds few = told_all walk_in_bounds (λ o w tells. tells.bounds few)

  -- LAW: and are no more than the ids that the page prints
  pub told_few : started ≤ page_ids prims (asked_of s) (trees_in s) → length (walks_told s) ≤ page_ids prims (asked_of s) (trees_in s)
  told_few few =
      let most = of.few in
      let less = found_few s.ids (drop started (take s.most s.objects.items)) in
      more _ _ _ _ _ few most less (length-drop started (take s.most s.objects.items)) (length-take s.most s.objects.items) (joined (walks_in s) found)
    where
      joined : (ws vs : List Walk) → length (ws ++ vs) ≡ length ws + length vs
      joined [] vs = omega arith
      joined (w ∷ ws) vs = let rest = joined ws vs in omega (arith, rest)

      more : (n p left taken all : ℕ) → n ≤ p → s.most ≤ p → length found ≤ left → left ≡ taken - n → taken ≡ min s.most (length s.objects.items) → all ≡ n + length found → all ≤ p
      more n p left taken all few most less left_is taken_is all_is = omega (arith, few, most, less, left_is, taken_is, all_is)
