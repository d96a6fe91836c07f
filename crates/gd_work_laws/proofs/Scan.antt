-- The scan of a root set: its work pays for it.
use Rattle.std.proofs.Common.{◌≡◌, ◌∙◌, ℕ, ◌+◌, ◌*◌, ◌≤◌, List, [], ◌∷◌, ◌++◌, map, Bool, true, false, ◌&&◌, Option, Some, None, refl, arith}
use Rattle.std.specs.Prelude.{sum_by, if◌then◌else◌}
use Rattle.std.specs.Option.{option_map_or, option_to_list}
use Rattle.std.proofs.lemmas.List.Sums.{sum_by-cons}
use Rattle.gd_prim.specs.declared.Primitive.{Primitive}
use Rattle.gd_prim.specs.Live.{places_where, end_at}
use Rattle.gd_defs.specs.Data.{Test, equals}
use Rattle.gd_defs.specs.Property.{near_of}
use Rattle.gd_defs.specs.Asked.{Own, its_id, its_guid, SortKey, Asking, Members, no_members, own, asks, Asked}
use Rattle.gd_defs.specs.Plan.{link_template, clauses_of, template_of, object_tests}
use Rattle.gd_defs.specs.Template.{is_object, passes_template, meets_constraints, is_required, is_literal}
use Rattle.gd_match_laws.specs.PassedOn.{Each, RootSet, everything, named_places, links_of, named_sets, link_sets, sets_by_name, sets_by_link, root_sets, named, with_typ, with_far, work, set_work}
use Rattle.gd_match_laws.proofs.PassedOn.{Each-both}
use Rattle.gd_template_laws.specs.Fits.{AreAsked}
use Rattle.gd_template_laws.proofs.Literals.{member-literal}
use Rattle.gd_work_laws.specs.Turns.{test_turns, clauses_test_turns, build_turns}
use Rattle.gd_work_laws.specs.Formed.{AreFormed}
use Rattle.gd_work_laws.specs.Scan.{candidate_turns, first_turns, set_turns}
use Rattle.gd_work_laws.proofs.Ends.{if_most}
use Rattle.gd_work_laws.proofs.Members.{members_paid}

-- ---- a candidate

module _ (prims : List Primitive) (q : Asked) (formed : AreFormed q.members) where
  test_paid : (x : ℕ) → test_turns prims (template_of q) x ≤ clauses_test_turns prims (clauses_of q.sort q.members) x
  test_paid x = if_most (meets_constraints prims (is_object ∷ object_tests q.members) x) (clauses_test_turns prims (clauses_of q.sort q.members) x) (clauses_test_turns prims (clauses_of q.sort q.members) x) (omega arith)

  -- with as much again as a test
  pub candidate_paid : (x n : ℕ) → n ≤ clauses_test_turns prims (clauses_of q.sort q.members) x → 1 + (n + candidate_turns prims q x) ≤ 10 * (1 + work prims q.sort q.members x)
  candidate_paid x n more = total _ _ _ _ _ more (test_paid x) (if_most (passes_template prims (template_of q) x) (1 + build_turns prims (template_of q) x) _ (omega arith)) (members_paid prims q.members q.sort formed x)
    where
      total : (u v t b w : ℕ) → n ≤ u → t ≤ u → b ≤ 1 + (1 + v) → v + 2 * u ≤ 10 * w → 1 + (n + (1 + t + b)) ≤ 10 * (1 + w)
      total u v t b w one two three four = omega (arith, one, two, three, four)

  pub alone_paid : (x : ℕ) → 1 + candidate_turns prims q x ≤ 10 * (1 + work prims q.sort q.members x)
  alone_paid x = no_more _ _ (candidate_paid x 0 (omega arith))
    where
      no_more : (c w : ℕ) → 1 + (0 + c) ≤ w → 1 + c ≤ w
      no_more c w less = omega (arith, less)

  -- ---- sets of places, and of links

  sum_mapped : {A : Type 0} (h : A → Option ℕ) (f : ℕ → ℕ) (g : A → ℕ) (xs : List A) → ((x : A) → g x ≤ 10 * (1 + option_map_or f (h x) 0)) → sum_by g xs ≤ 10 * sum_by (λ place. 1 + option_map_or f place 0) (map h xs)
  sum_mapped h f g [] less = omega arith
  sum_mapped h f g (x ∷ xs) less = by _ _ _ _ _ (sum_by-cons g x xs) (sum_by-cons (λ (place : Option ℕ). 1 + option_map_or f place 0) (h x) (map h xs)) (less x) (sum_mapped h f g xs less)
    where
      by : (a r s t u : ℕ) → t ≡ a + r → u ≡ 1 + option_map_or f (h x) 0 + s → a ≤ 10 * (1 + option_map_or f (h x) 0) → r ≤ 10 * s → t ≤ 10 * u
      by a r s t u one two here rest = omega (arith, one, two, here, rest)

  places_paid : (places : List ℕ) → sum_by (λ x. 1 + candidate_turns prims q x) places ≤ 10 * sum_by (λ place. 1 + option_map_or (work prims q.sort q.members) place 0) (map (λ place. Some place) places)
  places_paid places = sum_mapped (λ place. Some place) (work prims q.sort q.members) (λ x. 1 + candidate_turns prims q x) places alone_paid

  abbrev pub IsPaid : RootSet → Type 0
  IsPaid s = set_turns prims q s ≤ 10 * set_work prims q s

  links_paid : (a : Asking) (c : Members) (links : List ℕ) → ((o : ℕ) → first_turns prims a c o ≤ clauses_test_turns prims (clauses_of q.sort q.members) o) → IsPaid (links_of a c links)
  links_paid a c links first = sum_mapped (λ k. end_at (near_of a.property) prims k) (work prims q.sort q.members)
      (λ k. 1 + option_map_or (λ o. first_turns prims a c o + candidate_turns prims q o) (end_at (near_of a.property) prims k) 0) links (λ k. one (end_at (near_of a.property) prims k))
    where
      one : (o : Option ℕ) → 1 + option_map_or (λ o. first_turns prims a c o + candidate_turns prims q o) o 0 ≤ 10 * (1 + option_map_or (work prims q.sort q.members) o 0)
      one None = omega arith
      one (Some o) = candidate_paid o (first_turns prims a c o) (first o)

-- ---- the sets of a query

-- a fact of each set of a query: of all places, of those that are named, and of the links of a member for which a place is looked for in no more turns than its test takes
module _ (prims : List Primitive) (q : Asked) (P : RootSet → Type 0) (all : P everything) (places : (ps : List ℕ) → P (named_places ps))
    (of_links : (a : Asking) (c : Members) (links : List ℕ) → ((o : ℕ) → first_turns prims a c o ≤ clauses_test_turns prims (clauses_of q.sort q.members) o) → P (links_of a c links)) where
  link_sets_each : (a : Asking) (c : Members) (t : Test) → ((o : ℕ) → first_turns prims a c o ≤ clauses_test_turns prims (clauses_of q.sort q.members) o) → Each P (link_sets prims a c t)
  link_sets_each a c (equals d) first = (of_links a c (with_typ prims a.property) first, (of_links a c (with_far prims a.property d) first, tt))
  link_sets_each a c _ first = (of_links a c (with_typ prims a.property) first, tt)

  by_link_each : (ms : Members) → AreAsked ms → ((o : ℕ) → clauses_test_turns prims (clauses_of q.sort ms) o ≤ clauses_test_turns prims (clauses_of q.sort q.members) o) → Each P (sets_by_link prims ms)
  by_link_each no_members are within = tt
  by_link_each (own name its_id t j ms) are within = by_link_each ms are.1 within
  by_link_each (own name its_guid t j ms) are within = by_link_each ms are.1 within
  by_link_each (own name Rattle.gd_defs.specs.Asked.its_timestamp t j ms) are within = by_link_each ms are.1 within
  by_link_each (own name Rattle.gd_defs.specs.Asked.its_link t j ms) are within = by_link_each ms are.1 within
  by_link_each (own name Rattle.gd_defs.specs.Asked.its_value t j ms) are within = absurd are
  by_link_each (own name Rattle.gd_defs.specs.Asked.its_namespace t j ms) are within = absurd are
  by_link_each (own name Rattle.gd_defs.specs.Asked.its_lang t j ms) are within = absurd are
  by_link_each (asks name a c ms) are within = by a.given refl (by_link_each ms are.1 (λ o. behind _ _ _ (within o)))
    where
      behind : (x r w : ℕ) → x + r ≤ w → r ≤ w
      behind x r w less = omega (arith, less)

      first : a.given ≡ true → (o : ℕ) → first_turns prims a c o ≤ clauses_test_turns prims (clauses_of q.sort q.members) o
      first given o = whole _ _ _ _ (tested (is_required a.mode && is_literal (link_template a c (clauses_of a.sort c))) (member-literal a c are.0 ∙ given)) (within o)
        where
          tested : (b : Bool) → b ≡ true → first_turns prims a c o ≤ (if b then first_turns prims a c o else 0)
          tested true is = omega arith
          tested false is = absurd (cc)

          whole : (f x r w : ℕ) → f ≤ x → x + r ≤ w → f ≤ w
          whole f x r w one two = omega (arith, one, two)

      by : (b : Bool) → a.given ≡ b → Each P (sets_by_link prims ms) → Each P (if b then link_sets prims a c a.test ++ sets_by_link prims ms else sets_by_link prims ms)
      by true given rest = Each-both P (link_sets prims a c a.test) (sets_by_link prims ms) (link_sets_each a c a.test (first given)) rest
      by false given rest = rest

  option_each : (o : Option (List ℕ)) → Each P (option_to_list (Rattle.std.specs.Prelude.option_map named_places o))
  option_each None = tt
  option_each (Some ps) = (places ps, tt)

  named_each : (w : Own) (t : Test) → Each P (named_sets w t)
  named_each its_id t = option_each (named t)
  named_each its_guid t = option_each (named t)
  named_each _ t = tt

  by_name_each : (ms : Members) → Each P (sets_by_name ms)
  by_name_each no_members = tt
  by_name_each (own name w t j ms) = Each-both P (named_sets w t) (sets_by_name ms) (named_each w t) (by_name_each ms)
  by_name_each (asks name a c ms) = by_name_each ms

  pub sets_each : AreAsked q.members → Each P (root_sets prims q.members)
  sets_each are = by (sets_by_name q.members ++ sets_by_link prims q.members) refl (Each-both P (sets_by_name q.members) (sets_by_link prims q.members) (by_name_each q.members) (by_link_each q.members are (λ o. omega arith)))
    where
      by : (l : List RootSet) → sets_by_name q.members ++ sets_by_link prims q.members ≡ l → Each P (sets_by_name q.members ++ sets_by_link prims q.members) → Each P (root_sets prims q.members)
      by [] is each = rw is (all, tt)
      by (s ∷ ss) is each = rw is (rw is at each)

-- LAW: the work of each set pays for the scan of it
pub sets_paid : (prims : List Primitive) (q : Asked) (formed : AreFormed q.members) → AreAsked q.members → Each (IsPaid prims q formed) (root_sets prims q.members)
sets_paid prims q formed = sets_each prims q (IsPaid prims q formed) (places_paid prims q formed (places_where (λ p. true) prims)) (places_paid prims q formed) (links_paid prims q formed)
