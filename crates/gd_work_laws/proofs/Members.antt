-- The clauses of a query's members: the work of an object pays for them.
use Rattle.std.proofs.Common.{◌≡◌, ◌∙◌, ℕ, ◌+◌, ◌*◌, ◌≤◌, List, [], ◌∷◌, ◌++◌, Bool, true, false, ◌&&◌, ◌||◌, not, Option, Some, None, ◌⊎◌, inl, inr, refl, sym, ap, subst, arith}
use Rattle.std.specs.Prelude.{sum_by, if◌then◌else◌}
use Rattle.std.specs.Option.{option_map_or}
use Rattle.std.specs.List.{list_all}
use Rattle.std.proofs.lemmas.Bool.{false≢true}
use Rattle.std.proofs.lemmas.List.Sums.{sum_by-cons}
use Rattle.gd_prim.specs.declared.Primitive.{Primitive}
use Rattle.gd_prim.specs.declared.End.TheVariants.{Typ}
use Rattle.gd_defs.specs.Data.{of_text}
use Rattle.gd_defs.specs.Query.{Mode, required}
use Rattle.gd_defs.specs.Property.{Property, Expects, a_value, a_key, an_object_of_system, a_plain_object, expects_of, holds_values, far_end}
use Rattle.gd_defs.specs.Asked.{Key, by_guid, by_timestamp, by_property, SortKey, Asking, Members, no_members, own, asks, name_property}
use Rattle.gd_defs.specs.Plan.{language_test, of_kind, object_test, object_tests, unless_literal, asked_end, answers_of, link_template, sort_clauses, clauses_of}
use Rattle.gd_defs.specs.Template.{Constraint, end_is, is_object, links_by, led_to, Template, template, Clauses, no_clauses, clause, meets_constraints, passes_template, is_required, is_literal, are_literal, is_literal_constraint}
use Rattle.gd_defs.specs.Reply.{is_clause}
use Rattle.gd_match_laws.specs.PassedOn.{near, few, each_far, value_work, sort_work, work}
use Rattle.gd_template_laws.specs.Laws.{OnObjects}
use Rattle.gd_template_laws.proofs.Bools.{and-true, and-false}
use Rattle.gd_template_laws.proofs.Shapes.{shaped, link_template-shaped}
use Rattle.gd_work_laws.specs.Turns.{looked_at, is_tested, test_turns, clauses_test_turns, build_turns, clauses_build_turns}
use Rattle.gd_work_laws.specs.Formed.{IsNameOnly, IsFormed, AreFormed}
use Rattle.gd_work_laws.proofs.Sums.{sum_parts}
use Rattle.gd_work_laws.proofs.Links.{looked_few, near_few, links_sum, far_work}
use Rattle.gd_work_laws.proofs.Ends.{if_most, link_clauses, link_rest, split, on_far, link_test, link_build, value_test_none, value_build_two}

-- ---- sums

sum_twice : (f g : ℕ → ℕ) (xs : List ℕ) → sum_by f xs + 2 * sum_by g xs ≤ sum_by (λ x. f x + 2 * g x) xs
sum_twice f g [] = omega arith
sum_twice f g (x ∷ xs) = by _ _ _ _ _ _ _ _ (sum_by-cons f x xs) (sum_by-cons g x xs) (sum_by-cons (λ x. f x + 2 * g x) x xs) (sum_twice f g xs)
  where
    by : (a b r s t u v w : ℕ) → t ≡ a + r → u ≡ b + s → w ≡ a + 2 * b + v → r + 2 * s ≤ v → t + 2 * u ≤ w
    by a b r s t u v w one two three rest = omega (arith, one, two, three, rest)

-- ---- the clause of one member

abbrev pub one_test : List Primitive → Mode → Property → Template → ℕ → ℕ
one_test prims mode p t s = if is_tested mode (links_by (asked_end p)) t
    then 3 + looked_at prims (links_by (asked_end p)) t s + sum_by (test_turns prims t) (led_to prims (links_by (asked_end p)) s) else 0

abbrev pub one_build : List Primitive → Property → Template → ℕ → ℕ
one_build prims p t s = 3 + looked_at prims (links_by (asked_end p)) t s
    + sum_by (λ x. test_turns prims t x + (if passes_template prims t x then build_turns prims t x else 0)) (led_to prims (links_by (asked_end p)) s)

module _ (prims : List Primitive) (p : Property) (cs : List Constraint) (inner : Clauses) (s : ℕ) where
  abbrev of_links : Template
  of_links = template (end_is Typ p.stored ∷ cs) inner

  tests_most : 3 + looked_at prims (links_by (asked_end p)) of_links s + sum_by (test_turns prims of_links) (led_to prims (links_by (asked_end p)) s) ≤ 3 + few prims p s + sum_by (clauses_test_turns prims inner) (near prims p s)
  tests_most = sum _ _ _ _ (looked_few prims p s cs inner) (links_sum prims p s cs (test_turns prims of_links) (clauses_test_turns prims inner) (λ x is. rw is refl)
      (λ x. if_most (meets_constraints prims (end_is Typ p.stored ∷ cs) x) (clauses_test_turns prims inner x) (clauses_test_turns prims inner x) (omega arith)))
    where
      sum : (l f a b : ℕ) → l ≡ f → a ≤ b → 3 + l + a ≤ 3 + f + b
      sum l f a b one two = omega (arith, one, two)

  pub test_most : (mode : Mode) → one_test prims mode p of_links s ≤ 3 + few prims p s + sum_by (clauses_test_turns prims inner) (near prims p s)
  test_most mode = if_most (is_tested mode (links_by (asked_end p)) of_links) _ _ tests_most

  pub build_most : one_build prims p of_links s ≤ 3 + few prims p s + sum_by (λ k. clauses_test_turns prims inner k + (1 + clauses_build_turns prims inner k)) (near prims p s)
  build_most = sum _ _ _ _ (looked_few prims p s cs inner)
      (links_sum prims p s cs (λ x. test_turns prims of_links x + (if passes_template prims of_links x then build_turns prims of_links x else 0))
      (λ k. clauses_test_turns prims inner k + (1 + clauses_build_turns prims inner k)) (λ x is. rw is refl)
      (λ x. both _ _ _ _ (if_most (meets_constraints prims (end_is Typ p.stored ∷ cs) x) (clauses_test_turns prims inner x) (clauses_test_turns prims inner x) (omega arith))
      (if_most (passes_template prims of_links x) (1 + clauses_build_turns prims inner x) (1 + clauses_build_turns prims inner x) (omega arith))))
    where
      sum : (l f a b : ℕ) → l ≡ f → a ≤ b → 3 + l + a ≤ 3 + f + b
      sum l f a b one two = omega (arith, one, two)

      both : (a b c d : ℕ) → a ≤ c → b ≤ d → a + b ≤ c + d
      both a b c d one two = omega (arith, one, two)

  -- a member that may be tested
  pub paid_tested : (mode : Mode) (F : ℕ → ℕ) → ((k : ℕ) → clauses_test_turns prims inner k + (1 + clauses_build_turns prims inner k) + 2 * clauses_test_turns prims inner k ≤ 7 + 10 * (1 + option_map_or F (far_end prims p k) 0))
      → one_build prims p of_links s + 2 * one_test prims mode p of_links s ≤ 10 * (1 + few prims p s + each_far prims p s F)
  paid_tested mode F less = total _ _ _ _ _ _ _ _ _ build_most (test_most mode) (sum_twice (λ k. clauses_test_turns prims inner k + (1 + clauses_build_turns prims inner k)) (clauses_test_turns prims inner) (near prims p s))
      (sum_parts 7 (λ k. 1 + option_map_or F (far_end prims p k) 0) (λ k. clauses_test_turns prims inner k + (1 + clauses_build_turns prims inner k) + 2 * clauses_test_turns prims inner k) 10 (near prims p s) less)
      (far_work prims p s F (λ k. 1 + option_map_or F (far_end prims p k) 0) (λ k. omega arith)) (near_few prims p s)
    where
      total : (b t f x y g n w e : ℕ) → b ≤ 3 + f + x → t ≤ 3 + f + y → x + 2 * y ≤ g → g ≤ 7 * n + 10 * w → w ≤ e → n ≤ f → b + 2 * t ≤ 10 * (1 + f + e)
      total b t f x y g n w e one two three four five six = omega (arith, one, two, three, four, five, six)

  -- a member that is not tested
  pub paid_untested : (mode : Mode) (F : ℕ → ℕ) → is_tested mode (links_by (asked_end p)) of_links ≡ false
      → ((k : ℕ) → clauses_test_turns prims inner k + (1 + clauses_build_turns prims inner k) ≤ 0 + 10 * (1 + option_map_or F (far_end prims p k) 0))
      → one_build prims p of_links s + 2 * one_test prims mode p of_links s ≤ 10 * (1 + few prims p s + each_far prims p s F)
  paid_untested mode F untested less = total _ _ _ _ _ _ _ build_most none
      (sum_parts 0 (λ k. 1 + option_map_or F (far_end prims p k) 0) (λ k. clauses_test_turns prims inner k + (1 + clauses_build_turns prims inner k)) 10 (near prims p s) less)
      (far_work prims p s F (λ k. 1 + option_map_or F (far_end prims p k) 0) (λ k. omega arith))
    where
      none : one_test prims mode p of_links s ≡ 0
      none = rw untested refl

      total : (b t f x n w e : ℕ) → b ≤ 3 + f + x → t ≡ 0 → x ≤ 0 * n + 10 * w → w ≤ e → b + 2 * t ≤ 10 * (1 + f + e)
      total b t f x n w e one two three four = omega (arith, one, two, three, four)

-- ---- at the other end of one link

point_tested : (t b : ℕ) (u v F : ℕ → ℕ) (o : Option ℕ) → t ≤ 2 + option_map_or u o 0 → b ≤ 5 + option_map_or v o 0 → ((x : ℕ) → 3 * u x + v x ≤ 5 + 10 * F x) → t + (1 + b) + 2 * t ≤ 7 + 10 * (1 + option_map_or F o 0)
point_tested t b u v F None one two far = omega (arith, one, two)
point_tested t b u v F (Some x) one two far = let there = far x in omega (arith, one, two, there)

point_untested : (t b : ℕ) (u v F : ℕ → ℕ) (o : Option ℕ) → t ≤ 2 + option_map_or u o 0 → b ≤ 5 + option_map_or v o 0 → ((x : ℕ) → u x + v x ≤ 2 + 10 * F x) → t + (1 + b) ≤ 0 + 10 * (1 + option_map_or F o 0)
point_untested t b u v F None one two far = omega (arith, one, two)
point_untested t b u v F (Some x) one two far = let there = far x in omega (arith, one, two, there)

-- ---- members

-- the work at the other ends of a member's links
abbrev pub below : List Primitive → Asking → Members → ℕ → ℕ
below prims a c o = if holds_values (expects_of a.property.expected) && not a.property.reversed then 0
    else if is_clause a.style then work prims a.sort c o else value_work prims name_property o

-- what the clauses of members take: building, and two tests
abbrev pub taken : List Primitive → List SortKey → Members → ℕ → ℕ
taken prims sort ms s = clauses_build_turns prims (clauses_of sort ms) s + 2 * clauses_test_turns prims (clauses_of sort ms) s

pub is_not_literal : (mode : Mode) (cs : List Constraint) (p : Property) (tests : List Constraint) (nested : Clauses) → is_tested mode (links_by (asked_end p))
    (template (end_is Typ p.stored ∷ cs) (clause required (Rattle.gd_defs.specs.Template.end_here (Rattle.gd_defs.specs.Plan.answer_end p)) (template (is_object ∷ tests) (unless_literal false nested)) no_clauses)) ≡ false
is_not_literal mode cs p tests nested =
    ap (λ b. is_required mode && (false || (list_all is_literal_constraint cs && (b && true)))) (and-false (list_all is_literal_constraint tests))
    ∙ ap (λ b. is_required mode && b) (and-false (list_all is_literal_constraint cs)) ∙ and-false (is_required mode)

-- answers that are objects hold no values
pub far_objects : (p : Property) (e : Expects) → answers_of p ≡ e → holds_values e ≡ false → (holds_values (expects_of p.expected) && not p.reversed) ≡ false
far_objects p e is none = by p.reversed refl
  where
    by : (b : Bool) → p.reversed ≡ b → (holds_values (expects_of p.expected) && not p.reversed) ≡ false
    by true turned = rw turned (and-false (holds_values (expects_of p.expected)))
    by false turned = let same : expects_of p.expected ≡ e = (rw turned at is) in rw (turned, same) (and-true (holds_values e) ∙ none)

module _ (prims : List Primitive) (p : Property) (cs : List Constraint) (inner : Clauses) (s : ℕ) where
  -- links of values are cheap
  value_paid : (mode : Mode) → ((k : ℕ) → clauses_test_turns prims inner k ≤ 0) → ((k : ℕ) → clauses_build_turns prims inner k ≤ 2)
      → 4 * one_test prims mode p (template (end_is Typ p.stored ∷ cs) inner) s + one_build prims p (template (end_is Typ p.stored ∷ cs) inner) s ≤ 5 + 10 * value_work prims p s
  value_paid mode no_test few_build = total _ _ _ _ _ _ (build_most prims p cs inner s) (test_most prims p cs inner s mode)
      (sum_parts 3 (λ k. 0) (λ k. clauses_test_turns prims inner k + (1 + clauses_build_turns prims inner k)) 0 (near prims p s) (λ k. three _ _ (no_test k) (few_build k)))
      (sum_parts 0 (λ k. 0) (clauses_test_turns prims inner) 0 (near prims p s) (λ k. none _ (no_test k)))
    where
      three : (t b : ℕ) → t ≤ 0 → b ≤ 2 → t + (1 + b) ≤ 3 + 0 * 0
      three t b one two = omega (arith, one, two)

      none : (t : ℕ) → t ≤ 0 → t ≤ 0 + 0 * 0
      none t one = omega (arith, one)

      total : (b t f x y n : ℕ) → b ≤ 3 + f + x → t ≤ 3 + f + y → x ≤ 3 * n + 0 * sum_by (λ (k : ℕ). 0) (near prims p s) → y ≤ 0 * n + 0 * sum_by (λ (k : ℕ). 0) (near prims p s) → 4 * t + b ≤ 5 + 10 * (1 + f + n)
      total b t f x y n one two x_is y_is = omega (arith, one, two, x_is, y_is)

pub named_template : (a : Asking) (c : Members) (nested : Clauses) → a.property ≡ name_property
    → link_template a c nested ≡ template (end_is Typ a.property.stored ∷ link_rest (a_value of_text) a c) (link_clauses (a_value of_text) a c nested)
named_template a c nested named = link_template-shaped a c nested (a_value of_text) (ap answers_of named) ∙ split (a_value of_text) a c nested

module _ (prims : List Primitive) where
  -- the name alone
  name_paid : (a : Asking) (c : Members) (s : ℕ) → a.property ≡ name_property
      → 4 * one_test prims a.mode a.property (link_template a c (clauses_of a.sort c)) s + one_build prims a.property (link_template a c (clauses_of a.sort c)) s ≤ 5 + 10 * value_work prims name_property s
  name_paid a c s named =
      subst (λ p. 4 * one_test prims a.mode a.property (link_template a c (clauses_of a.sort c)) s + one_build prims a.property (link_template a c (clauses_of a.sort c)) s ≤ 5 + 10 * value_work prims p s) named
      (subst (λ t. 4 * one_test prims a.mode a.property t s + one_build prims a.property t s ≤ 5 + 10 * value_work prims a.property s) (sym (named_template a c (clauses_of a.sort c) named))
      (value_paid prims a.property (link_rest (a_value of_text) a c) (link_clauses (a_value of_text) a c (clauses_of a.sort c)) s a.mode
      (λ k. value_test_none prims a c (clauses_of a.sort c) of_text k) (λ k. value_build_two prims a c (clauses_of a.sort c) of_text k)))

  -- nothing, or the name alone
  name_only_paid : (c : Members) (sort : List SortKey) (s : ℕ) → sort ≡ [] → IsNameOnly c → 4 * clauses_test_turns prims (clauses_of sort c) s + clauses_build_turns prims (clauses_of sort c) s ≤ 5 + 10 * value_work prims name_property s
  name_only_paid no_members sort s unsorted only = rw unsorted (omega arith)
  name_only_paid (own name w t j ms) sort s unsorted only = absurd only
  name_only_paid (asks name a c ms) sort s unsorted only = rw (unsorted, only.1) (no_more _ _ _ (name_paid a c s only.0))
    where
      no_more : (t b n : ℕ) → 4 * t + b ≤ n → 4 * (t + 0) + (b + 0) ≤ n
      no_more t b n less = omega (arith, less)

-- ---- one member

-- what is below a member takes no more than its work allows, where answers are objects
abbrev pub FarPaid : List Primitive → Asking → Members → Type 0
FarPaid prims a c = (o : ℕ) → taken prims a.sort c o ≤ 10 * work prims a.sort c o

module _ (prims : List Primitive) (a : Asking) (c : Members) (s : ℕ) (formed : IsFormed a c) where
  abbrev pub OnePaid : Template → Type 0
  OnePaid t = one_build prims a.property t s + 2 * one_test prims a.mode a.property t s ≤ 10 * (1 + few prims a.property s + each_far prims a.property s (below prims a c))

  -- the template is that of these answers
  as_shaped : (e : Expects) → answers_of a.property ≡ e → link_template a c (clauses_of a.sort c) ≡ template (end_is Typ a.property.stored ∷ link_rest e a c) (link_clauses e a c (clauses_of a.sort c))
  as_shaped e is = link_template-shaped a c (clauses_of a.sort c) e is ∙ split e a c (clauses_of a.sort c)

  tested : (e : Expects) → answers_of a.property ≡ e
      → ((o : ℕ) → 3 * on_far e (clauses_test_turns prims (clauses_of a.sort c) o) + on_far e (clauses_test_turns prims (clauses_of a.sort c) o + clauses_build_turns prims (clauses_of a.sort c) o) ≤ 5 + 10 * below prims a c o)
      → OnePaid (link_template a c (clauses_of a.sort c))
  tested e is far = subst OnePaid (sym (as_shaped e is))
      (paid_tested prims a.property (link_rest e a c) (link_clauses e a c (clauses_of a.sort c)) s a.mode (below prims a c)
      (λ k. point_tested _ _ (λ x. on_far e (clauses_test_turns prims (clauses_of a.sort c) x)) (λ x. on_far e (clauses_test_turns prims (clauses_of a.sort c) x + clauses_build_turns prims (clauses_of a.sort c) x)) (below prims a c)
      (far_end prims a.property k) (link_test prims a c (clauses_of a.sort c) e k) (link_build prims a c (clauses_of a.sort c) e k) far))

  untested : (e : Expects) → answers_of a.property ≡ e → is_tested a.mode (links_by (asked_end a.property)) (template (end_is Typ a.property.stored ∷ link_rest e a c) (link_clauses e a c (clauses_of a.sort c))) ≡ false
      → ((o : ℕ) → on_far e (clauses_test_turns prims (clauses_of a.sort c) o) + on_far e (clauses_test_turns prims (clauses_of a.sort c) o + clauses_build_turns prims (clauses_of a.sort c) o) ≤ 2 + 10 * below prims a c o)
      → OnePaid (link_template a c (clauses_of a.sort c))
  untested e is not_tested far = subst OnePaid (sym (as_shaped e is))
      (paid_untested prims a.property (link_rest e a c) (link_clauses e a c (clauses_of a.sort c)) s a.mode (below prims a c) not_tested
      (λ k. point_untested _ _ (λ x. on_far e (clauses_test_turns prims (clauses_of a.sort c) x)) (λ x. on_far e (clauses_test_turns prims (clauses_of a.sort c) x + clauses_build_turns prims (clauses_of a.sort c) x)) (below prims a c)
      (far_end prims a.property k) (link_test prims a c (clauses_of a.sort c) e k) (link_build prims a c (clauses_of a.sort c) e k) far))

  nothing_far : (o : ℕ) → 3 * 0 + 0 ≤ 5 + 10 * below prims a c o
  nothing_far o = omega arith

  -- what prints no clause
  plain : (e : Expects) → answers_of a.property ≡ e → holds_values e ≡ false → ((n : ℕ) → on_far e n ≡ n) → is_clause a.style ≡ false → OnePaid (link_template a c (clauses_of a.sort c))
  plain e is objects whole style = tested e is (λ o. far o)
    where
      name : (o : ℕ) → below prims a c o ≡ value_work prims name_property o
      name o = rw (far_objects a.property e is objects, style) refl

      sum : (t b u v n w : ℕ) → u ≡ t → v ≡ t + b → w ≡ n → 4 * t + b ≤ 5 + 10 * n → 3 * u + v ≤ 5 + 10 * w
      sum t b u v n w one two three four = omega (arith, one, two, three, four)

      far : (o : ℕ) → 3 * on_far e (clauses_test_turns prims (clauses_of a.sort c) o) + on_far e (clauses_test_turns prims (clauses_of a.sort c) o + clauses_build_turns prims (clauses_of a.sort c) o) ≤ 5 + 10 * below prims a c o
      far o = sum _ _ _ _ _ _ (whole (clauses_test_turns prims (clauses_of a.sort c) o)) (whole (clauses_test_turns prims (clauses_of a.sort c) o + clauses_build_turns prims (clauses_of a.sort c) o)) (name o)
          (name_only_paid prims c a.sort o (formed.plain style).1 (formed.plain style).0)

  -- what prints one
  printing : (e : Expects) → answers_of a.property ≡ e → holds_values e ≡ false → ((n : ℕ) → on_far e n ≡ n) → is_clause a.style ≡ true
      → is_tested a.mode (links_by (asked_end a.property)) (template (end_is Typ a.property.stored ∷ link_rest e a c) (link_clauses e a c (clauses_of a.sort c))) ≡ false
      → FarPaid prims a c → OnePaid (link_template a c (clauses_of a.sort c))
  printing e is objects whole style not_tested paid = untested e is not_tested (λ o. far o)
    where
      clause_work : (o : ℕ) → below prims a c o ≡ work prims a.sort c o
      clause_work o = rw (far_objects a.property e is objects, style) refl

      sum : (t b u v n w : ℕ) → u ≡ t → v ≡ t + b → w ≡ n → b + 2 * t ≤ 10 * n → u + v ≤ 2 + 10 * w
      sum t b u v n w one two three four = omega (arith, one, two, three, four)

      far : (o : ℕ) → on_far e (clauses_test_turns prims (clauses_of a.sort c) o) + on_far e (clauses_test_turns prims (clauses_of a.sort c) o + clauses_build_turns prims (clauses_of a.sort c) o) ≤ 2 + 10 * below prims a c o
      far o = sum _ _ _ _ _ _ (whole (clauses_test_turns prims (clauses_of a.sort c) o)) (whole (clauses_test_turns prims (clauses_of a.sort c) o + clauses_build_turns prims (clauses_of a.sort c) o)) (clause_work o) (paid o)

  not_given : is_clause a.style ≡ true → a.given ≡ false
  not_given style = by a.given refl
    where
      by : (b : Bool) → a.given ≡ b → a.given ≡ false
      by false is = is
      by true is = absurd (false≢true (sym (formed.given is) ∙ style))

  -- the template of what prints a clause is no literal one
  object_untested : (tests : List Constraint) → a.given ≡ false → is_tested a.mode (links_by (asked_end a.property))
      (template (end_is Typ a.property.stored ∷ language_test a.property.language) (Rattle.gd_template_laws.proofs.Shapes.far_clause a.property tests (unless_literal a.given (clauses_of a.sort c)))) ≡ false
  object_untested tests is = rw is (is_not_literal a.mode (language_test a.property.language) a.property tests (clauses_of a.sort c))

  pub one_paid : OnObjects (answers_of a.property) (FarPaid prims a c) → OnePaid (link_template a c (clauses_of a.sort c))
  one_paid paid = by (answers_of a.property) refl paid
    where
      by : (e : Expects) → answers_of a.property ≡ e → OnObjects e (FarPaid prims a c) → OnePaid (link_template a c (clauses_of a.sort c))
      by (a_value k) is paid = tested (a_value k) is nothing_far
      by a_key is paid = tested a_key is nothing_far
      by an_object_of_system is paid = style (is_clause a.style) refl
        where
          style : (b : Bool) → is_clause a.style ≡ b → OnePaid (link_template a c (clauses_of a.sort c))
          style true as_one = printing an_object_of_system is refl (λ n. refl) as_one (object_untested (object_test a.test ++ object_tests c) (not_given as_one)) paid
          style false as_one = plain an_object_of_system is refl (λ n. refl) as_one
      by a_plain_object is paid = style (is_clause a.style) refl
        where
          style : (b : Bool) → is_clause a.style ≡ b → OnePaid (link_template a c (clauses_of a.sort c))
          style true as_one = printing a_plain_object is refl (λ n. refl) as_one (object_untested (object_test a.test ++ object_tests c) (not_given as_one)) paid
          style false as_one = plain a_plain_object is refl (λ n. refl) as_one

-- ---- sort keys

pub key_known : (k : Key) → (k ≡ by_guid) ⊎ ((k ≡ by_timestamp) ⊎ ((p : Property) × (k ≡ by_property p)))
key_known by_guid = inl refl
key_known by_timestamp = inr (inl refl)
key_known (by_property p) = inr (inr (p, refl))

sum_step : {A : Type 0} (f : A → ℕ) (x : A) (xs : List A) (n m : ℕ) → n ≤ 10 * f x → m ≤ 10 * sum_by f xs → n + m ≤ 10 * sum_by f (x ∷ xs)
sum_step f x xs n m one two = by _ _ _ (sum_by-cons f x xs) one two
  where
    by : (a r t : ℕ) → t ≡ a + r → n ≤ 10 * a → m ≤ 10 * r → n + m ≤ 10 * t
    by a r t is one two = omega (arith, is, one, two)

-- what the clauses of sort keys take
abbrev sorts_taken : List Primitive → List SortKey → ℕ → ℕ
sorts_taken prims ss s = clauses_build_turns prims (sort_clauses ss) s + 2 * clauses_test_turns prims (sort_clauses ss) s

module _ (prims : List Primitive) (s : ℕ) where
  -- the clause of one sort key
  one_key : (p : Property) (k : Rattle.gd_defs.specs.Data.Kind) → one_build prims p (template (end_is Typ p.stored ∷ (language_test p.language ++ of_kind k ∷ [])) no_clauses) s ≤ 10 * value_work prims p s
  one_key p k = total _ _ _ _ (build_most prims p (language_test p.language ++ of_kind k ∷ []) no_clauses s) (sum_parts 1 (λ k. 0) (λ k. clauses_test_turns prims no_clauses k + (1 + clauses_build_turns prims no_clauses k)) 0 (near prims p s) (λ k. omega arith))
    where
      total : (b f x n : ℕ) → b ≤ 3 + f + x → x ≤ 1 * n + 0 * sum_by (λ (k : ℕ). 0) (near prims p s) → b ≤ 10 * (1 + f + n)
      total b f x n one two = omega (arith, one, two)

  pub expects_known : (e : Expects) → ((k : Rattle.gd_defs.specs.Data.Kind) × (e ≡ a_value k)) ⊎ ((e ≡ a_key) ⊎ ((e ≡ an_object_of_system) ⊎ (e ≡ a_plain_object)))
  expects_known (a_value k) = inl (k, refl)
  expects_known a_key = inr (inl refl)
  expects_known an_object_of_system = inr (inr (inl refl))
  expects_known a_plain_object = inr (inr (inr refl))

  in_front : (b r t n : ℕ) → b ≤ 10 * n → (b + r) + 2 * (0 + t) ≤ 10 * n + (r + 2 * t)
  in_front b r t n less = omega (arith, less)

  only_behind : (r t n : ℕ) → r + 2 * t ≤ n + (r + 2 * t)
  only_behind r t n = omega arith

  property_paid : (p : Property) (descending : Bool) (ss : List SortKey) → sorts_taken prims (record { key = by_property p; descending = descending } ∷ ss) s ≤ 10 * value_work prims p s + sorts_taken prims ss s
  property_paid p descending ss = elim (expects_known (expects_of p.expected)) [
    | inl value ↦ rw (value.1) (in_front (one_build prims p (template (end_is Typ p.stored ∷ (language_test p.language ++ of_kind value.0 ∷ [])) no_clauses) s) (clauses_build_turns prims (sort_clauses ss) s) (clauses_test_turns prims (sort_clauses ss) s) (value_work prims p s) (one_key p value.0))
    | inr other ↦ elim other [
      | inl is ↦ rw is (only_behind (clauses_build_turns prims (sort_clauses ss) s) (clauses_test_turns prims (sort_clauses ss) s) (10 * value_work prims p s))
      | inr object ↦ elim object [
        | inl is ↦ rw is (only_behind (clauses_build_turns prims (sort_clauses ss) s) (clauses_test_turns prims (sort_clauses ss) s) (10 * value_work prims p s))
        | inr is ↦ rw is (only_behind (clauses_build_turns prims (sort_clauses ss) s) (clauses_test_turns prims (sort_clauses ss) s) (10 * value_work prims p s))
      ]
    ]
  ]

  key_paid : (k : Key) (descending : Bool) (ss : List SortKey) → sorts_taken prims (record { key = k; descending = descending } ∷ ss) s ≤ 10 * sort_work prims (record { key = k; descending = descending } ∷ []) s + sorts_taken prims ss s
  key_paid by_guid descending ss = only_behind (clauses_build_turns prims (sort_clauses ss) s) (clauses_test_turns prims (sort_clauses ss) s) _
  key_paid by_timestamp descending ss = only_behind (clauses_build_turns prims (sort_clauses ss) s) (clauses_test_turns prims (sort_clauses ss) s) _
  key_paid (by_property p) descending ss = whole _ _ _ (property_paid p descending ss)
    where
      whole : (n w m : ℕ) → n ≤ 10 * w + m → n ≤ 10 * (0 + w) + m
      whole n w m less = omega (arith, less)

  sort_split : {A : Type 0} (f : A → ℕ) (x : A) (xs : List A) (n m : ℕ) → n ≤ 10 * sum_by f (x ∷ []) + m → m ≤ 10 * sum_by f xs → n ≤ 10 * sum_by f (x ∷ xs)
  sort_split f x xs n m one two = by _ _ _ _ (sum_by-cons f x xs) (sum_by-cons f x []) one two
    where
      by : (a r t u : ℕ) → t ≡ a + r → u ≡ a + 0 → n ≤ 10 * u + m → m ≤ 10 * r → n ≤ 10 * t
      by a r t u is one_is one two = omega (arith, is, one_is, one, two)

  sort_paid : (ss : List SortKey) → sorts_taken prims ss s ≤ 10 * sort_work prims ss s
  sort_paid [] = omega arith
  sort_paid (x ∷ ss) = sort_split _ x ss (sorts_taken prims (x ∷ ss) s) (sorts_taken prims ss s) (key_paid x.key x.descending ss) (sort_paid ss)

-- ---- all members

pub on_objects : {X Y : Type 0} (e : Expects) → OnObjects e X → (X → Y) → OnObjects e Y
on_objects (a_value k) x f = tt
on_objects a_key x f = tt
on_objects an_object_of_system x f = f x
on_objects a_plain_object x f = f x

pub members_paid : (prims : List Primitive) (ms : Members) (sort : List SortKey) → AreFormed ms → (s : ℕ) → taken prims sort ms s ≤ 10 * work prims sort ms s
members_paid prims no_members sort formed s = sort_paid prims s sort
members_paid prims (own name w t operand ms) sort formed s = members_paid prims ms sort formed s
members_paid prims (asks name a c ms) sort formed s =
    both _ _ _ _ _ _ (one_paid prims a c s formed.0 (on_objects (answers_of a.property) formed.1.0 (λ are. λ o. members_paid prims c a.sort are o))) (members_paid prims ms sort formed.1.1 s)
  where
    both : (b t n d u m : ℕ) → b + 2 * t ≤ 10 * n → d + 2 * u ≤ 10 * m → (b + d) + 2 * (t + u) ≤ 10 * (n + m)
    both b t n d u m one two = omega (arith, one, two)
