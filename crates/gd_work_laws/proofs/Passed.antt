-- The clauses of a query's members at an object: its work pays for their test, and where the object passes for building its tree.
use Rattle.std.proofs.Common.{◌≡◌, ◌∙◌, ℕ, suc, ◌+◌, ◌*◌, ◌≤◌, List, [], ◌∷◌, ◌++◌, length, Bool, true, false, ◌&&◌, ◌||◌, not, Option, Some, None, inl, inr, refl, sym, ap, subst, arith}
use Rattle.std.specs.Prelude.{sum_by, if◌then◌else◌}
use Rattle.std.specs.Option.{option_map_or, option_to_list}
use Rattle.std.specs.List.{list_all, list_any}
use Rattle.std.proofs.lemmas.Bool.{false≢true}
use Rattle.std.proofs.lemmas.List.Sums.{sum_by-cons}
use Rattle.gd_prim.specs.declared.Primitive.{Primitive}
use Rattle.gd_prim.specs.declared.End.TheVariants.{Typ}
use Rattle.gd_prim.specs.End.{end_of}
use Rattle.gd_prim.specs.Live.{end_at}
use Rattle.gd_defs.specs.Data.{of_text}
use Rattle.gd_defs.specs.Query.{Mode}
use Rattle.gd_defs.specs.Property.{Property, Expects, a_value, a_key, an_object_of_system, a_plain_object, expects_of, holds_values, far_end}
use Rattle.gd_defs.specs.Asked.{Key, by_guid, by_timestamp, by_property, SortKey, Asking, Members, no_members, own, asks, name_property}
use Rattle.gd_defs.specs.Plan.{language_test, namespace_tests, object_test, object_tests, of_kind, unless_literal, asked_end, answer_end, answers_of, link_template, sort_clauses, clauses_of}
use Rattle.gd_defs.specs.Template.{Constraint, end_is, is_object, links_by, led_to, Template, template, Clauses, no_clauses, clause, meets_constraints, meets_clauses, passes_template, passes_clauses, is_answer, is_required, is_literal, are_literal, is_literal_constraint}
use Rattle.gd_defs.specs.Reply.{is_clause}
use Rattle.gd_match_laws.specs.PassedOn.{near, few, each_far, value_work, sort_work, work}
use Rattle.gd_match_laws.proofs.PassedOn.{both_true}
use Rattle.gd_template_laws.specs.Laws.{OnObjects}
use Rattle.gd_template_laws.proofs.Bools.{and-false}
use Rattle.gd_template_laws.proofs.Shapes.{far_clause, link_template-shaped, answer_end-at}
use Rattle.gd_work_laws.specs.Turns.{is_tested, test_turns, clauses_test_turns, build_turns, clauses_build_turns}
use Rattle.gd_work_laws.specs.Formed.{IsNameOnly, IsFormed, AreFormed}
use Rattle.gd_work_laws.proofs.Sums.{sum_parts}
use Rattle.gd_work_laws.proofs.Links.{looked_few, near_few, links_sum, far_work}
use Rattle.gd_work_laws.proofs.Ends.{if_most, link_clauses, link_rest, split, on_far, link_test, link_build, unless_build, unless_test, value_test_none, value_build_two, at_far, at_more}
use Rattle.gd_work_laws.proofs.Members.{one_test, one_build, test_most, below, far_objects, is_not_literal, named_template, expects_known, on_objects}

-- ---- the sums

-- what clauses take at a place: 16 for each turn of the test, and where the place passes 8 for each of building
abbrev pub weighed : List Primitive → Clauses → ℕ → ℕ
weighed prims cs s = 16 * clauses_test_turns prims cs s + (if passes_clauses prims cs s then 8 * clauses_build_turns prims cs s else 0)

sum_two : (f g : ℕ → ℕ) (xs : List ℕ) → 16 * sum_by f xs + 8 * sum_by g xs ≤ sum_by (λ x. 16 * f x + 8 * g x) xs
sum_two f g [] = omega arith
sum_two f g (x ∷ xs) = by _ _ _ _ _ _ _ _ (sum_by-cons f x xs) (sum_by-cons g x xs) (sum_by-cons (λ x. 16 * f x + 8 * g x) x xs) (sum_two f g xs)
  where
    by : (a b r s t u v w : ℕ) → t ≡ a + r → u ≡ b + s → w ≡ 16 * a + 8 * b + v → 16 * r + 8 * s ≤ v → 16 * t + 8 * u ≤ w
    by a b r s t u v w one two three rest = omega (arith, one, two, three, rest)

-- one that is found counts one
any_counts : (q : ℕ → Bool) (g : ℕ → ℕ) (xs : List ℕ) → ((x : ℕ) → q x ≡ true → g x ≡ 1) → list_any q xs ≡ true → 1 ≤ sum_by g xs
any_counts q g [] one is = absurd (false≢true is)
any_counts q g (x ∷ xs) one is = by (q x) refl is (any_counts q g xs one)
  where
    here : (a r t : ℕ) → t ≡ a + r → a ≡ 1 → 1 ≤ t
    here a r t two three = omega (arith, two, three)

    there : (a r t : ℕ) → t ≡ a + r → 1 ≤ r → 1 ≤ t
    there a r t two three = omega (arith, two, three)

    by : (b : Bool) → q x ≡ b → (b || list_any q xs) ≡ true → (list_any q xs ≡ true → 1 ≤ sum_by g xs) → 1 ≤ sum_by g (x ∷ xs)
    by true at any rest = here _ _ _ (sum_by-cons g x xs) (one x at)
    by false at any rest = there _ _ _ (sum_by-cons g x xs) (rest any)

eight_if : (b : Bool) (n : ℕ) → (if b then 8 * n else 0) ≡ 8 * (if b then n else 0)
eight_if true n = refl
eight_if false n = refl

if_same : (b : Bool) (n : ℕ) → (if b then n else 0) ≤ (if b then n else 0)
if_same b n = omega arith

ones : (xs : List ℕ) → sum_by (λ (x : ℕ). 1) xs ≡ length xs
ones [] = refl
ones (x ∷ xs) = by _ _ _ (sum_by-cons (λ (y : ℕ). 1) x xs) (ones xs)
  where
    by : (s r l : ℕ) → s ≡ 1 + r → r ≡ l → s ≡ suc l
    by s r l one two = omega (arith, one, two)

-- ---- the clause of one member

-- what a clause on links asks of a place that passes, as far as links go
abbrev pub is_met_by : List Primitive → Mode → Property → Template → ℕ → Bool
is_met_by prims mode p t s = not (is_required mode && is_literal t) || list_any (is_answer prims t) (led_to prims (links_by (asked_end p)) s)

-- what it takes
abbrev pub one_weighed : List Primitive → Mode → Property → Template → ℕ → ℕ
one_weighed prims mode p t s = 16 * one_test prims mode p t s + (if is_met_by prims mode p t s then 8 * one_build prims p t s else 0)

module _ (prims : List Primitive) (p : Property) (cs : List Constraint) (inner : Clauses) (s : ℕ) where
  abbrev pub of_these : Template
  of_these = template (end_is Typ p.stored ∷ cs) inner

  -- the turns of a link: its test, and where it passes its building
  abbrev pub link_turns : ℕ → ℕ
  link_turns k = clauses_test_turns prims inner k + (if passes_template prims of_these k then 1 + clauses_build_turns prims inner k else 0)

  pub builds_most : one_build prims p of_these s ≤ 3 + few prims p s + sum_by link_turns (near prims p s)
  builds_most = sum _ _ _ _ (looked_few prims p s cs inner)
      (links_sum prims p s cs (λ x. test_turns prims of_these x + (if passes_template prims of_these x then build_turns prims of_these x else 0)) link_turns (λ x is. rw is refl)
      (λ x. both _ _ _ _ (if_most (meets_constraints prims (end_is Typ p.stored ∷ cs) x) (clauses_test_turns prims inner x) (clauses_test_turns prims inner x) (omega arith))
      (if_same (passes_template prims of_these x) (1 + clauses_build_turns prims inner x))))
    where
      sum : (l f a b : ℕ) → l ≡ f → a ≤ b → 3 + l + a ≤ 3 + f + b
      sum l f a b one two = omega (arith, one, two)

      both : (a b c d : ℕ) → a ≤ c → b ≤ d → a + b ≤ c + d
      both a b c d one two = omega (arith, one, two)

  -- where a link answers there is one
  pub some_near : list_any (is_answer prims of_these) (led_to prims (links_by (asked_end p)) s) ≡ true → 1 ≤ length (near prims p s)
  some_near any = by _ _ _ (any_counts (is_answer prims of_these) counts (led_to prims (links_by (asked_end p)) s) met any)
      (links_sum prims p s cs counts (λ k. 1) (λ x is. rw is refl) (λ x. if_most (meets_constraints prims (end_is Typ p.stored ∷ cs) x) 1 1 (omega arith))) (ones (near prims p s))
    where
      counts : ℕ → ℕ
      counts x = if meets_constraints prims (end_is Typ p.stored ∷ cs) x then 1 else 0

      met : (x : ℕ) → is_answer prims of_these x ≡ true → counts x ≡ 1
      met x is = let holds = (both_true (meets_constraints prims (end_is Typ p.stored ∷ cs) x) (meets_clauses prims inner x) is).0 in rw holds refl

      by : (a b c : ℕ) → 1 ≤ a → a ≤ b → b ≡ c → 1 ≤ c
      by a b c one two three = omega (arith, one, two, three)

  -- a member that is not tested
  pub weighed_untested : (mode : Mode) (F : ℕ → ℕ) → is_tested mode (links_by (asked_end p)) of_these ≡ false → ((k : ℕ) → 8 * link_turns k ≤ 1 + 63 * (1 + option_map_or F (far_end prims p k) 0))
      → one_weighed prims mode p of_these s ≤ 63 * (1 + few prims p s + each_far prims p s F)
  weighed_untested mode F untested less = total _ _ _ _ _ _ _ _ none (if_most (is_met_by prims mode p of_these s) _ _ (built _ _ _ builds_most))
      (sum_eight link_turns (near prims p s))
      (sum_parts 1 (λ k. 1 + option_map_or F (far_end prims p k) 0) (λ k. 8 * link_turns k) 63 (near prims p s) less)
      (far_work prims p s F (λ k. 1 + option_map_or F (far_end prims p k) 0) (λ k. omega arith)) (near_few prims p s)
    where
      none : one_test prims mode p of_these s ≡ 0
      none = rw untested refl

      built : (b f x : ℕ) → b ≤ 3 + f + x → 8 * b ≤ 24 + 8 * f + 8 * x
      built b f x less = omega (arith, less)

      sum_eight : (g : ℕ → ℕ) (xs : List ℕ) → 8 * sum_by g xs ≤ sum_by (λ x. 8 * g x) xs
      sum_eight g [] = omega arith
      sum_eight g (x ∷ xs) = by _ _ _ _ _ (sum_by-cons g x xs) (sum_by-cons (λ x. 8 * g x) x xs) (sum_eight g xs)
        where
          by : (a r s t u : ℕ) → t ≡ a + r → u ≡ 8 * a + s → 8 * r ≤ s → 8 * t ≤ u
          by a r s t u one two rest = omega (arith, one, two, rest)

      total : (t b f x g n w e : ℕ) → t ≡ 0 → b ≤ 24 + 8 * f + 8 * x → 8 * x ≤ g → g ≤ 1 * n + 63 * w → w ≤ e → n ≤ f → 16 * t + b ≤ 63 * (1 + f + e)
      total t b f x g n w e one two three four five six = omega (arith, one, two, three, four, five, six)

  -- a member that is tested
  pub weighed_tested : (mode : Mode) (F : ℕ → ℕ) → is_tested mode (links_by (asked_end p)) of_these ≡ true → ((k : ℕ) → 16 * clauses_test_turns prims inner k + 8 * link_turns k ≤ 30 + 63 * (1 + option_map_or F (far_end prims p k) 0))
      → one_weighed prims mode p of_these s ≤ 63 * (1 + few prims p s + each_far prims p s F)
  weighed_tested mode F tested less = by (is_met_by prims mode p of_these s) refl
    where
      links : ℕ
      links = length (near prims p s)

      sums : 16 * sum_by (clauses_test_turns prims inner) (near prims p s) + 8 * sum_by link_turns (near prims p s) ≤ 30 * length (near prims p s) + 63 * each_far prims p s F
      sums = through _ _ _ _ _ (sum_two (clauses_test_turns prims inner) link_turns (near prims p s))
          (sum_parts 30 (λ k. 1 + option_map_or F (far_end prims p k) 0) (λ k. 16 * clauses_test_turns prims inner k + 8 * link_turns k) 63 (near prims p s) less)
          (far_work prims p s F (λ k. 1 + option_map_or F (far_end prims p k) 0) (λ k. omega arith))
        where
          through : (a g n w e : ℕ) → a ≤ g → g ≤ 30 * n + 63 * w → w ≤ e → a ≤ 30 * n + 63 * e
          through a g n w e one two three = omega (arith, one, two, three)

      answered : (b a : Bool) → b ≡ true → (not b || a) ≡ true → a ≡ true
      answered true a is met = met
      answered false a is met = absurd (false≢true is)

      passing : (t b f x y n e : ℕ) → t ≤ 3 + f + y → b ≤ 3 + f + x → 16 * y + 8 * x ≤ 30 * n + 63 * e → 1 ≤ n → n ≤ f → 16 * t + 8 * b ≤ 63 * (1 + f + e)
      passing t b f x y n e one two three four five = omega (arith, one, two, three, four, five)

      failing : (t f x y n e : ℕ) → t ≤ 3 + f + y → 16 * y + 8 * x ≤ 30 * n + 63 * e → n ≤ f → 16 * t + 0 ≤ 63 * (1 + f + e)
      failing t f x y n e one two three = omega (arith, one, two, three)

      by : (b : Bool) → is_met_by prims mode p of_these s ≡ b → 16 * one_test prims mode p of_these s + (if b then 8 * one_build prims p of_these s else 0) ≤ 63 * (1 + few prims p s + each_far prims p s F)
      by true met = passing _ _ _ _ _ _ _ (test_most prims p cs inner s mode) builds_most sums
          (some_near (answered (is_required mode && is_literal of_these) (list_any (is_answer prims of_these) (led_to prims (links_by (asked_end p)) s)) tested met)) (near_few prims p s)
      by false unmet = failing _ _ _ _ _ _ (test_most prims p cs inner s mode) sums (near_few prims p s)

-- ---- values

-- links of values: what their clause takes, by itself and where it is tested below another link
pub record ValuePaid (prims : List Primitive) (p : Property) (s : ℕ) (mode : Mode) (t : Template) : Type 0 where
  pub weighs : one_weighed prims mode p t s ≤ 63 * value_work prims p s
  pub test : 24 * one_test prims mode p t s ≤ 45 + 63 * value_work prims p s
  pub both : is_met_by prims mode p t s ≡ true → 32 * one_test prims mode p t s + 8 * one_build prims p t s ≤ 13 + 63 * value_work prims p s

module _ (prims : List Primitive) (p : Property) (cs : List Constraint) (inner : Clauses) (s : ℕ) where
  pub value_weighed : (mode : Mode) → ((k : ℕ) → clauses_test_turns prims inner k ≤ 0) → ((k : ℕ) → clauses_build_turns prims inner k ≤ 2) → ValuePaid prims p s mode (of_these prims p cs inner s)
  value_weighed mode no_test few_build = by (is_tested mode (links_by (asked_end p)) (of_these prims p cs inner s)) refl
    where
      these : Template
      these = template (end_is Typ p.stored ∷ cs) inner

      build : one_build prims p these s ≤ 3 + few prims p s + 3 * length (near prims p s)
      build = sum _ _ _ _ (builds_most prims p cs inner s) (sum_parts 3 (λ k. 0) (link_turns prims p cs inner s) 0 (near prims p s) (λ k. three (clauses_test_turns prims inner k) (if passes_template prims these k then 1 + clauses_build_turns prims inner k else 0) 0 (no_test k) (if_most (passes_template prims these k) (1 + clauses_build_turns prims inner k) 3 (built (clauses_build_turns prims inner k) (few_build k)))))
        where
          built : (b : ℕ) → b ≤ 2 → 1 + b ≤ 3
          built b less = omega (arith, less)

          three : (t b m : ℕ) → t ≤ 0 → b ≤ 3 → t + b ≤ 3 + 0 * m
          three t b m one two = omega (arith, one, two)

          sum : (b f x n : ℕ) → b ≤ 3 + f + x → x ≤ 3 * n + 0 * sum_by (λ (k : ℕ). 0) (near prims p s) → b ≤ 3 + f + 3 * n
          sum b f x n one two = omega (arith, one, two)

      test : one_test prims mode p these s ≤ 3 + few prims p s
      test = sum _ _ _ (test_most prims p cs inner s mode) (sum_parts 0 (λ k. 0) (clauses_test_turns prims inner) 0 (near prims p s) (λ k. none (clauses_test_turns prims inner k) 0 (no_test k)))
        where
          none : (t m : ℕ) → t ≤ 0 → t ≤ 0 + 0 * m
          none t m one = omega (arith, one)

          sum : (t f y : ℕ) → t ≤ 3 + f + y → y ≤ 0 * length (near prims p s) + 0 * sum_by (λ (k : ℕ). 0) (near prims p s) → t ≤ 3 + f
          sum t f y one two = omega (arith, one, two)

      few_near : length (near prims p s) ≤ few prims p s
      few_near = near_few prims p s

      by : (b : Bool) → is_tested mode (links_by (asked_end p)) these ≡ b → ValuePaid prims p s mode these
      by false untested = record {
        weighs = untested_weighed _ _ _ _ none (if_most (is_met_by prims mode p these s) _ _ (eight _ _ _ build));
        test = untested_test _ _ none;
        both = λ met. untested_both _ _ _ _ none build;
      }
        where
          none : one_test prims mode p these s ≡ 0
          none = rw untested refl

          eight : (b f n : ℕ) → b ≤ 3 + f + 3 * n → 8 * b ≤ 24 + 8 * f + 24 * n
          eight b f n less = omega (arith, less)

          untested_weighed : (t b f n : ℕ) → t ≡ 0 → b ≤ 24 + 8 * f + 24 * n → 16 * t + b ≤ 63 * (1 + f + n)
          untested_weighed t b f n one two = omega (arith, one, two)

          untested_test : (t w : ℕ) → t ≡ 0 → 24 * t ≤ 45 + 63 * w
          untested_test t w one = omega (arith, one)

          untested_both : (t b f n : ℕ) → t ≡ 0 → b ≤ 3 + f + 3 * n → 32 * t + 8 * b ≤ 13 + 63 * (1 + f + n)
          untested_both t b f n one two = omega (arith, one, two)
      by true tested = record {
        weighs = met_or_not (is_met_by prims mode p these s) refl;
        test = tested_test _ _ _ test;
        both = λ met. tested_both _ _ _ _ test build (there met) few_near;
      }
        where
          there : is_met_by prims mode p these s ≡ true → 1 ≤ length (near prims p s)
          there met = some_near prims p cs inner s (answered (is_required mode && is_literal these) (list_any (is_answer prims these) (led_to prims (links_by (asked_end p)) s)) tested met)
            where
              answered : (b a : Bool) → b ≡ true → (not b || a) ≡ true → a ≡ true
              answered true a is met = met
              answered false a is met = absurd (false≢true is)

          passing : (t b f n : ℕ) → t ≤ 3 + f → b ≤ 3 + f + 3 * n → 1 ≤ n → n ≤ f → 16 * t + 8 * b ≤ 63 * (1 + f + n)
          passing t b f n one two three four = omega (arith, one, two, three, four)

          failing : (t f n : ℕ) → t ≤ 3 + f → 16 * t + 0 ≤ 63 * (1 + f + n)
          failing t f n one = omega (arith, one)

          met_or_not : (b : Bool) → is_met_by prims mode p these s ≡ b → 16 * one_test prims mode p these s + (if b then 8 * one_build prims p these s else 0) ≤ 63 * value_work prims p s
          met_or_not true met = passing _ _ _ _ test build (there met) few_near
          met_or_not false unmet = failing _ _ _ test

          tested_test : (t f n : ℕ) → t ≤ 3 + f → 24 * t ≤ 45 + 63 * (1 + f + n)
          tested_test t f n one = omega (arith, one)

          tested_both : (t b f n : ℕ) → t ≤ 3 + f → b ≤ 3 + f + 3 * n → 1 ≤ n → n ≤ f → 32 * t + 8 * b ≤ 13 + 63 * (1 + f + n)
          tested_both t b f n one two three four = omega (arith, one, two, three, four)

-- ---- the name alone

-- what nested clauses take at an object below a link, against a number of its work
pub record NamePaid (prims : List Primitive) (cs : Clauses) (s : ℕ) (w : ℕ) : Type 0 where
  pub weighs : weighed prims cs s ≤ 63 * w
  pub test : 24 * clauses_test_turns prims cs s ≤ 45 + 63 * w
  pub both : passes_clauses prims cs s ≡ true → 32 * clauses_test_turns prims cs s + 8 * clauses_build_turns prims cs s ≤ 13 + 63 * w

nothing_paid : (prims : List Primitive) (s w : ℕ) → NamePaid prims no_clauses s w
nothing_paid prims s w = record { weighs = omega arith; test = omega arith; both = λ is. omega arith }

-- one clause alone
alone_paid : (prims : List Primitive) (p : Property) (mode : Mode) (t : Template) (s : ℕ) → ValuePaid prims p s mode t → NamePaid prims (clause mode (links_by (asked_end p)) t no_clauses) s (value_work prims p s)
alone_paid prims p mode t s paid = record {
  weighs = whole (is_met_by prims mode p t s) (not (is_required mode && false) || list_any (passes_template prims t) (led_to prims (links_by (asked_end p)) s)) (one_test prims mode p t s) (one_build prims p t s) (63 * value_work prims p s) paid.weighs;
  test = no_more (one_test prims mode p t s) (45 + 63 * value_work prims p s) paid.test;
  both = λ is. no_more_both (one_test prims mode p t s) (one_build prims p t s) (13 + 63 * value_work prims p s)
      (paid.both (both_true (is_met_by prims mode p t s) (not (is_required mode && false) || list_any (passes_template prims t) (led_to prims (links_by (asked_end p)) s))
      (both_true (is_met_by prims mode p t s && (not (is_required mode && false) || list_any (passes_template prims t) (led_to prims (links_by (asked_end p)) s))) true is).0).0);
}
  where
    no_more : (t w : ℕ) → 24 * t ≤ w → 24 * (t + 0) ≤ w
    no_more t w less = omega (arith, less)

    no_more_both : (t b w : ℕ) → 32 * t + 8 * b ≤ w → 32 * (t + 0) + 8 * (b + 0) ≤ w
    no_more_both t b w less = omega (arith, less)

    plain : (t b w : ℕ) → 16 * t + 8 * b ≤ w → 16 * (t + 0) + 8 * (b + 0) ≤ w
    plain t b w less = omega (arith, less)

    none : (t b w : ℕ) → 16 * t + 0 ≤ w → 16 * (t + 0) + 0 ≤ w
    none t b w less = omega (arith, less)

    lost : (t b w : ℕ) → 16 * t + 8 * b ≤ w → 16 * (t + 0) + 0 ≤ w
    lost t b w less = omega (arith, less)

    whole : (a e : Bool) (t b w : ℕ) → 16 * t + (if a then 8 * b else 0) ≤ w → 16 * (t + 0) + (if (a && e) && true then 8 * (b + 0) else 0) ≤ w
    whole true true t b w less = plain t b w less
    whole true false t b w less = lost t b w less
    whole false e t b w less = none t b w less

module _ (prims : List Primitive) where
  name_weighed : (a : Asking) (c : Members) (s : ℕ) → a.property ≡ name_property → ValuePaid prims a.property s a.mode (link_template a c (clauses_of a.sort c))
  name_weighed a c s named = subst (ValuePaid prims a.property s a.mode) (sym (named_template a c (clauses_of a.sort c) named))
      (value_weighed prims a.property (link_rest (a_value of_text) a c) (link_clauses (a_value of_text) a c (clauses_of a.sort c)) s a.mode
      (λ k. value_test_none prims a c (clauses_of a.sort c) of_text k) (λ k. value_build_two prims a c (clauses_of a.sort c) of_text k))

  -- nothing, or the name alone
  name_only_weighed : (c : Members) (sort : List SortKey) (s : ℕ) → sort ≡ [] → IsNameOnly c → NamePaid prims (clauses_of sort c) s (value_work prims name_property s)
  name_only_weighed no_members sort s unsorted only = subst (λ ks. NamePaid prims (sort_clauses ks) s (value_work prims name_property s)) (sym unsorted) (nothing_paid prims s (value_work prims name_property s))
  name_only_weighed (own name w t j ms) sort s unsorted only = absurd only
  name_only_weighed (asks name a c ms) sort s unsorted only =
      subst (λ ks. NamePaid prims (clauses_of ks (asks name a c ms)) s (value_work prims name_property s)) (sym unsorted)
      (subst (λ rest. NamePaid prims (clauses_of [] (asks name a c rest)) s (value_work prims name_property s)) (sym only.1)
      (subst (λ p. NamePaid prims (clauses_of [] (asks name a c no_members)) s (value_work prims p s)) only.0
      (alone_paid prims a.property a.mode (link_template a c (clauses_of a.sort c)) s (name_weighed a c s only.0))))

-- ---- at the other end of one link

-- what is built of a place where it passes
abbrev built_if : List Primitive → Clauses → ℕ → ℕ
built_if prims cs x = clauses_test_turns prims cs x + (if passes_clauses prims cs x then clauses_build_turns prims cs x else 0)

-- the clause that only what is no literal has is passed
unless_passes : (prims : List Primitive) (given : Bool) (rest : Clauses) (x : ℕ) → passes_clauses prims (unless_literal given rest) x ≡ passes_clauses prims rest x
unless_passes prims true rest x = refl
unless_passes prims false rest x = refl

unless_built : (prims : List Primitive) (given : Bool) (rest : Clauses) (x : ℕ) → built_if prims (unless_literal given rest) x ≤ 2 + built_if prims rest x
unless_built prims given rest x = rw (unless_passes prims given rest x) (by (passes_clauses prims rest x) _ _ _ _ (unless_test prims given rest x) (unless_build prims given rest x))
  where
    by : (b : Bool) (t u v w : ℕ) → t ≤ u → v ≤ 2 + w → t + (if b then v else 0) ≤ 2 + (u + (if b then w else 0))
    by true t u v w one two = omega (arith, one, two)
    by false t u v w one two = omega (arith, one)

one_true : (b : Bool) → (b || false) ≡ true → b ≡ true
one_true true is = refl
one_true false is = is

module _ (prims : List Primitive) (p : Property) (ts : List Constraint) (inner : Clauses) where
  -- the object there
  abbrev object : Template
  object = template (is_object ∷ ts) inner

  -- what passes the clause of that object has it, and the object passes what is below it
  far_passes : (k : ℕ) → passes_clauses prims (far_clause p ts inner) k ≡ true → (x : ℕ) × (far_end prims p k ≡ Some x) × (passes_clauses prims inner x ≡ true)
  far_passes k passes = by (end_at (end_of (answer_end p)) prims k) refl there
    where
      there : list_any (passes_template prims object) (option_to_list (end_at (end_of (answer_end p)) prims k)) ≡ true
      there = (both_true _ (list_any (passes_template prims object) (option_to_list (end_at (end_of (answer_end p)) prims k))) (both_true _ true passes).0).1

      by : (o : Option ℕ) → end_at (end_of (answer_end p)) prims k ≡ o → list_any (passes_template prims object) (option_to_list o) ≡ true → (x : ℕ) × (far_end prims p k ≡ Some x) × (passes_clauses prims inner x ≡ true)
      by None is any = absurd (false≢true any)
      by (Some x) is any = (x, sym (answer_end-at prims p k) ∙ is, (both_true (meets_constraints prims (is_object ∷ ts) x) (passes_clauses prims inner x) (one_true _ any)).1)

  -- the clause of that object adds three turns to building, with a test of the object and, where it passes, its building
  far_built : (k : ℕ) → clauses_build_turns prims (far_clause p ts inner) k ≤ 3 + option_map_or (built_if prims inner) (far_end prims p k) 0
  far_built k = subst (λ o. clauses_build_turns prims (far_clause p ts inner) k ≤ 3 + option_map_or (built_if prims inner) o 0) (answer_end-at prims p k) (by (end_at (end_of (answer_end p)) prims k))
    where
      each : (x : ℕ) → test_turns prims object x + (if passes_template prims object x then build_turns prims object x else 0) ≤ 1 + built_if prims inner x
      each x = sum _ _ _ _ (if_most (meets_constraints prims (is_object ∷ ts) x) (clauses_test_turns prims inner x) (clauses_test_turns prims inner x) (omega arith))
          (fewer (meets_constraints prims (is_object ∷ ts) x) (passes_clauses prims inner x) (clauses_build_turns prims inner x))
        where
          fewer : (m b : Bool) (n : ℕ) → (if m && b then 1 + n else 0) ≤ 1 + (if b then n else 0)
          fewer true true n = omega arith
          fewer true false n = omega arith
          fewer false b n = omega arith

          sum : (t b u v : ℕ) → t ≤ u → b ≤ 1 + v → t + b ≤ 1 + (u + v)
          sum t b u v one two = omega (arith, one, two)

      there : (f g : ℕ → ℕ) (o : Option ℕ) → ((x : ℕ) → f x ≤ 1 + g x) → 1 + length (option_to_list o) + sum_by f (option_to_list o) + 0 ≤ 3 + option_map_or g o 0
      there f g None less = omega arith
      there f g (Some x) less = let one = less x in omega (arith, one)

      by : (o : Option ℕ) → 1 + length (option_to_list o) + sum_by (λ x. test_turns prims object x + (if passes_template prims object x then build_turns prims object x else 0)) (option_to_list o) + 0 ≤ 3 + option_map_or (built_if prims inner) o 0
      by o = there (λ x. test_turns prims object x + (if passes_template prims object x then build_turns prims object x else 0)) (built_if prims inner) o each

-- of building a link: five, and where its object passes what is below that
link_built : (prims : List Primitive) (a : Asking) (c : Members) (nested : Clauses) (e : Expects) (k : ℕ) → clauses_build_turns prims (link_clauses e a c nested) k ≤ 5 + option_map_or (λ x. on_far e (built_if prims nested x)) (far_end prims a.property k) 0
link_built prims a c nested (a_value v) k = link_build prims a c nested (a_value v) k
link_built prims a c nested a_key k = link_build prims a c nested a_key k
link_built prims a c nested an_object_of_system k = add _ _ _ (far_built prims a.property (object_test a.test ++ object_tests c) (unless_literal a.given nested) k)
    (at_far (built_if prims (unless_literal a.given nested)) (built_if prims nested) 2 0 (far_end prims a.property k) (λ x. unless_built prims a.given nested x))
  where
    add : (b m o : ℕ) → b ≤ 3 + m → m ≤ 2 + o → b ≤ 5 + o
    add b m o one two = omega (arith, one, two)
link_built prims a c nested a_plain_object k = add _ _ _ (far_built prims a.property (object_test a.test ++ object_tests c) (unless_literal a.given nested) k)
    (at_far (built_if prims (unless_literal a.given nested)) (built_if prims nested) 2 0 (far_end prims a.property k) (λ x. unless_built prims a.given nested x))
  where
    add : (b m o : ℕ) → b ≤ 3 + m → m ≤ 2 + o → b ≤ 5 + o
    add b m o one two = omega (arith, one, two)

-- a link that is not tested
point_untested : (t b : ℕ) (passes : Bool) (u v F : ℕ → ℕ) (o : Option ℕ) → t ≤ 2 + option_map_or u o 0 → b ≤ 5 + option_map_or v o 0 → ((x : ℕ) → 8 * u x + 8 * v x ≤ 63 * F x)
    → 8 * (t + (if passes then 1 + b else 0)) ≤ 1 + 63 * (1 + option_map_or F o 0)
point_untested t b passes u v F o one two far = by _ _ _ _ one (if_most passes _ _ (more _ _ two)) (at o)
  where
    more : (b v : ℕ) → b ≤ 5 + v → 1 + b ≤ 6 + v
    more b v less = omega (arith, less)

    at : (o : Option ℕ) → 8 * option_map_or u o 0 + 8 * option_map_or v o 0 ≤ 63 * option_map_or F o 0
    at None = omega arith
    at (Some x) = far x

    by : (b u v f : ℕ) → t ≤ 2 + u → b ≤ 6 + v → 8 * u + 8 * v ≤ 63 * f → 8 * (t + b) ≤ 1 + 63 * (1 + f)
    by b u v f one two three = omega (arith, one, two, three)

-- ---- one member

-- what is below a member takes no more than its work allows, where answers are objects
abbrev pub FarWeighed : List Primitive → Asking → Members → Type 0
FarWeighed prims a c = (o : ℕ) → weighed prims (clauses_of a.sort c) o ≤ 63 * work prims a.sort c o

module _ (prims : List Primitive) (a : Asking) (c : Members) (s : ℕ) (formed : IsFormed a c) where
  abbrev nested : Clauses
  nested = clauses_of a.sort c

  -- the template of the links of a member with these answers
  abbrev link_of : Expects → Template
  link_of e = template (end_is Typ a.property.stored ∷ link_rest e a c) (link_clauses e a c (clauses_of a.sort c))

  abbrev pub OneWeighed : Template → Type 0
  OneWeighed t = one_weighed prims a.mode a.property t s ≤ 63 * (1 + few prims a.property s + each_far prims a.property s (below prims a c))

  as_shaped : (e : Expects) → answers_of a.property ≡ e → link_template a c (clauses_of a.sort c) ≡ link_of e
  as_shaped e is = link_template-shaped a c (clauses_of a.sort c) e is ∙ split e a c (clauses_of a.sort c)

  untested : (e : Expects) → answers_of a.property ≡ e → is_tested a.mode (links_by (asked_end a.property)) (link_of e) ≡ false
      → ((o : ℕ) → 8 * on_far e (clauses_test_turns prims (clauses_of a.sort c) o) + 8 * on_far e (built_if prims (clauses_of a.sort c) o) ≤ 63 * below prims a c o) → OneWeighed (link_of e)
  untested e is not_tested far = weighed_untested prims a.property (link_rest e a c) (link_clauses e a c (clauses_of a.sort c)) s a.mode (below prims a c) not_tested
      (λ k. point_untested (clauses_test_turns prims (link_clauses e a c (clauses_of a.sort c)) k) (clauses_build_turns prims (link_clauses e a c (clauses_of a.sort c)) k) (passes_template prims (link_of e) k)
      (λ x. on_far e (clauses_test_turns prims (clauses_of a.sort c) x)) (λ x. on_far e (built_if prims (clauses_of a.sort c) x)) (below prims a c) (far_end prims a.property k)
      (link_test prims a c (clauses_of a.sort c) e k) (link_built prims a c (clauses_of a.sort c) e k) far)

  -- answers that are values
  values : (k : _) → answers_of a.property ≡ a_value k → OneWeighed (link_of (a_value k))
  values v is = by (is_tested a.mode (links_by (asked_end a.property)) (link_of (a_value v))) refl
    where
      point : (t b : ℕ) (passes : Bool) (f : ℕ) → t ≤ 0 → b ≤ 2 → 16 * t + 8 * (t + (if passes then 1 + b else 0)) ≤ 30 + 63 * (1 + f)
      point t b true f one two = omega (arith, one, two)
      point t b false f one two = omega (arith, one)

      by : (b : Bool) → is_tested a.mode (links_by (asked_end a.property)) (link_of (a_value v)) ≡ b → OneWeighed (link_of (a_value v))
      by false not_tested = untested (a_value v) is not_tested (λ o. omega arith)
      by true tested = weighed_tested prims a.property (link_rest (a_value v) a c) (link_clauses (a_value v) a c (clauses_of a.sort c)) s a.mode (below prims a c) tested
          (λ k. point (clauses_test_turns prims (link_clauses (a_value v) a c (clauses_of a.sort c)) k) (clauses_build_turns prims (link_clauses (a_value v) a c (clauses_of a.sort c)) k) (passes_template prims (link_of (a_value v)) k)
          (option_map_or (below prims a c) (far_end prims a.property k) 0) (value_test_none prims a c (clauses_of a.sort c) v k) (value_build_two prims a c (clauses_of a.sort c) v k))

  -- what is not given is not literal
  key_untested : a.given ≡ false → is_tested a.mode (links_by (asked_end a.property)) (link_of a_key) ≡ false
  key_untested is = ap (λ b. is_required a.mode && (false || (list_all is_literal_constraint (end_is Typ a.property.stored ∷ link_rest a_key a c) && are_literal (unless_literal b (far_clause a.property (namespace_tests c) no_clauses))))) is
      ∙ (ap (λ b. is_required a.mode && b) (and-false (list_all is_literal_constraint (end_is Typ a.property.stored ∷ link_rest a_key a c))) ∙ and-false (is_required a.mode))

  tested_given : (e : Expects) → (a.given ≡ false → is_tested a.mode (links_by (asked_end a.property)) (link_of e) ≡ false) → is_tested a.mode (links_by (asked_end a.property)) (link_of e) ≡ true → a.given ≡ true
  tested_given e not_given tested = by a.given refl
    where
      by : (b : Bool) → a.given ≡ b → a.given ≡ true
      by true is = is
      by false is = absurd (false≢true (sym (not_given is) ∙ tested))

  -- answers that are keys
  keys : answers_of a.property ≡ a_key → OneWeighed (link_of a_key)
  keys is = by (is_tested a.mode (links_by (asked_end a.property)) (link_of a_key)) refl
    where
      point : (t b : ℕ) (passes : Bool) (o : Option ℕ) (f : ℕ) → t ≤ 2 + option_map_or (λ x. 0) o 0 → b ≤ 3 + option_map_or (λ x. 0) o 0 → 16 * t + 8 * (t + (if passes then 1 + b else 0)) ≤ 30 + 63 * (1 + f)
      point t b true None f one two = omega (arith, one, two)
      point t b true (Some x) f one two = omega (arith, one, two)
      point t b false None f one two = omega (arith, one)
      point t b false (Some x) f one two = omega (arith, one)

      given_build : a.given ≡ true → (k : ℕ) → clauses_build_turns prims (link_clauses a_key a c (clauses_of a.sort c)) k ≤ 3 + option_map_or (λ x. 0) (far_end prims a.property k) 0
      given_build given k = subst (λ b. clauses_build_turns prims (unless_literal b (far_clause a.property (namespace_tests c) no_clauses)) k ≤ 3 + option_map_or (λ x. 0) (far_end prims a.property k) 0) (sym given) (far_built prims a.property (namespace_tests c) no_clauses k)

      by : (b : Bool) → is_tested a.mode (links_by (asked_end a.property)) (link_of a_key) ≡ b → OneWeighed (link_of a_key)
      by false not_tested = untested a_key is not_tested (λ o. omega arith)
      by true tested = weighed_tested prims a.property (link_rest a_key a c) (link_clauses a_key a c (clauses_of a.sort c)) s a.mode (below prims a c) tested
          (λ k. point (clauses_test_turns prims (link_clauses a_key a c (clauses_of a.sort c)) k) (clauses_build_turns prims (link_clauses a_key a c (clauses_of a.sort c)) k) (passes_template prims (link_of a_key) k) (far_end prims a.property k)
          (option_map_or (below prims a c) (far_end prims a.property k) 0) (link_test prims a c (clauses_of a.sort c) a_key k) (given_build (tested_given a_key key_untested tested) k))

  -- answers that are objects
  module _ (e : Expects) (is : answers_of a.property ≡ e) (objects : holds_values e ≡ false) (whole : (n : ℕ) → on_far e n ≡ n)
      (far : link_clauses e a c (clauses_of a.sort c) ≡ far_clause a.property (object_test a.test ++ object_tests c) (unless_literal a.given (clauses_of a.sort c))) where
    eights : (t b : ℕ) (passes : Bool) → 8 * t + 8 * (t + (if passes then b else 0)) ≡ 16 * t + (if passes then 8 * b else 0)
    eights t b true = grind (arith)
    eights t b false = grind (arith)

    not_tested_far : (F : ℕ → ℕ) → ((o : ℕ) → weighed prims (clauses_of a.sort c) o ≤ 63 * F o) → ((o : ℕ) → below prims a c o ≡ F o) → (o : ℕ)
        → 8 * on_far e (clauses_test_turns prims (clauses_of a.sort c) o) + 8 * on_far e (built_if prims (clauses_of a.sort c) o) ≤ 63 * below prims a c o
    not_tested_far F less same o = by _ _ _ _ _ _ (whole (clauses_test_turns prims (clauses_of a.sort c) o)) (whole (built_if prims (clauses_of a.sort c) o)) (same o)
        (eights (clauses_test_turns prims (clauses_of a.sort c) o) (clauses_build_turns prims (clauses_of a.sort c) o) (passes_clauses prims (clauses_of a.sort c) o)) (less o)
      where
        by : (u v t b n m : ℕ) → u ≡ t → v ≡ b → n ≡ m → 8 * t + 8 * b ≡ weighed prims (clauses_of a.sort c) o → weighed prims (clauses_of a.sort c) o ≤ 63 * m → 8 * u + 8 * v ≤ 63 * n
        by u v t b n m one two three four five = omega (arith, one, two, three, four, five)

    not_given_untested : a.given ≡ false → is_tested a.mode (links_by (asked_end a.property)) (link_of e) ≡ false
    not_given_untested given = ap (λ (i : Clauses). is_tested a.mode (links_by (asked_end a.property)) (template (end_is Typ a.property.stored ∷ link_rest e a c) i)) far
        ∙ (ap (λ b. is_tested a.mode (links_by (asked_end a.property)) (template (end_is Typ a.property.stored ∷ link_rest e a c) (far_clause a.property (object_test a.test ++ object_tests c) (unless_literal b (clauses_of a.sort c))))) given
        ∙ is_not_literal a.mode (link_rest e a c) a.property (object_test a.test ++ object_tests c) (clauses_of a.sort c))

    -- what prints a clause
    printing : is_clause a.style ≡ true → FarWeighed prims a c → OneWeighed (link_of e)
    printing style paid = untested e is (not_given_untested not_given) (not_tested_far (work prims a.sort c) paid clause_work)
      where
        not_given : a.given ≡ false
        not_given = by a.given refl
          where
            by : (b : Bool) → a.given ≡ b → a.given ≡ false
            by false is = is
            by true is = absurd (false≢true (sym (formed.given is) ∙ style))

        clause_work : (o : ℕ) → below prims a c o ≡ work prims a.sort c o
        clause_work o = rw (far_objects a.property e is objects, style) refl

    -- what prints none
    plain : is_clause a.style ≡ false → OneWeighed (link_of e)
    plain style = by (is_tested a.mode (links_by (asked_end a.property)) (link_of e)) refl
      where
        name_work : (o : ℕ) → below prims a c o ≡ value_work prims name_property o
        name_work o = rw (far_objects a.property e is objects, style) refl

        name : (o : ℕ) → NamePaid prims (clauses_of a.sort c) o (value_work prims name_property o)
        name o = name_only_weighed prims c a.sort o (formed.plain style).1 (formed.plain style).0

        -- a link that is tested
        failing : (t b : ℕ) (u F : ℕ → ℕ) (o : Option ℕ) → t ≤ 2 + option_map_or u o 0 → ((x : ℕ) → 24 * u x ≤ 45 + 63 * F x) → 16 * t + 8 * (t + 0) ≤ 30 + 63 * (1 + option_map_or F o 0)
        failing t b u F None one far = omega (arith, one)
        failing t b u F (Some x) one far = let there = far x in omega (arith, one, there)

        passing : (t b : ℕ) (u v F : ℕ → ℕ) (o : Option ℕ) (x : ℕ) → o ≡ Some x → t ≤ 2 + option_map_or u o 0 → b ≤ 3 + option_map_or (λ y. u y + v y) o 0 → 32 * u x + 8 * v x ≤ 13 + 63 * F x → 16 * t + 8 * (t + (1 + b)) ≤ 30 + 63 * (1 + option_map_or F o 0)
        passing t b u v F o x there one two far = rw there (by (rw there at one) (rw there at two))
          where
            by : t ≤ 2 + u x → b ≤ 3 + (u x + v x) → 16 * t + 8 * (t + (1 + b)) ≤ 30 + 63 * (1 + F x)
            by one two = omega (arith, one, two, far)

        point : a.given ≡ true → (k : ℕ) → 16 * clauses_test_turns prims (link_clauses e a c (clauses_of a.sort c)) k + 8 * link_turns prims a.property (link_rest e a c) (link_clauses e a c (clauses_of a.sort c)) s k
            ≤ 30 + 63 * (1 + option_map_or (below prims a c) (far_end prims a.property k) 0)
        point given k = at (passes_template prims (link_of e) k) refl
          where
            tests : clauses_test_turns prims (link_clauses e a c (clauses_of a.sort c)) k ≤ 2 + option_map_or (clauses_test_turns prims (clauses_of a.sort c)) (far_end prims a.property k) 0
            tests = more _ _ _ (link_test prims a c (clauses_of a.sort c) e k) (at_more (λ x. on_far e (clauses_test_turns prims (clauses_of a.sort c) x)) (clauses_test_turns prims (clauses_of a.sort c)) (far_end prims a.property k) (λ x. less _ _ (whole (clauses_test_turns prims (clauses_of a.sort c) x))))
              where
                less : (n m : ℕ) → n ≡ m → n ≤ m
                less n m same = omega (arith, same)

                more : (t n m : ℕ) → t ≤ 2 + n → n ≤ m → t ≤ 2 + m
                more t n m one two = omega (arith, one, two)

            given_clauses : link_clauses e a c (clauses_of a.sort c) ≡ far_clause a.property (object_test a.test ++ object_tests c) (clauses_of a.sort c)
            given_clauses = far ∙ ap (λ b. far_clause a.property (object_test a.test ++ object_tests c) (unless_literal b (clauses_of a.sort c))) given

            at : (b : Bool) → passes_template prims (link_of e) k ≡ b
                → 16 * clauses_test_turns prims (link_clauses e a c (clauses_of a.sort c)) k
                + 8 * (clauses_test_turns prims (link_clauses e a c (clauses_of a.sort c)) k + (if b then 1 + clauses_build_turns prims (link_clauses e a c (clauses_of a.sort c)) k else 0))
                ≤ 30 + 63 * (1 + option_map_or (below prims a c) (far_end prims a.property k) 0)
            at false fails = failing _ 0 (clauses_test_turns prims (clauses_of a.sort c)) (below prims a c) (far_end prims a.property k) tests
                (λ x. subst (λ n. 24 * clauses_test_turns prims (clauses_of a.sort c) x ≤ 45 + 63 * n) (sym (name_work x)) (name x).test)
            at true passes =
                let there = far_passes prims a.property (object_test a.test ++ object_tests c) (clauses_of a.sort c) k
                (subst (λ i. passes_clauses prims i k ≡ true) given_clauses (both_true (meets_constraints prims (end_is Typ a.property.stored ∷ link_rest e a c) k) (passes_clauses prims (link_clauses e a c (clauses_of a.sort c)) k) passes).1) in
                passing _ _ (clauses_test_turns prims (clauses_of a.sort c)) (λ x. if passes_clauses prims (clauses_of a.sort c) x then clauses_build_turns prims (clauses_of a.sort c) x else 0) (below prims a c) (far_end prims a.property k) there.0 there.1 tests
                (subst (λ i. clauses_build_turns prims i k ≤ 3 + option_map_or (built_if prims (clauses_of a.sort c)) (far_end prims a.property k) 0) (sym given_clauses) (far_built prims a.property (object_test a.test ++ object_tests c) (clauses_of a.sort c) k))
                (subst (λ n. 32 * clauses_test_turns prims (clauses_of a.sort c) there.0 + 8 * (if passes_clauses prims (clauses_of a.sort c) there.0 then clauses_build_turns prims (clauses_of a.sort c) there.0 else 0) ≤ 13 + 63 * n) (sym (name_work there.0))
                (subst (λ b. 32 * clauses_test_turns prims (clauses_of a.sort c) there.0 + 8 * (if b then clauses_build_turns prims (clauses_of a.sort c) there.0 else 0) ≤ 13 + 63 * value_work prims name_property there.0) (sym there.2) ((name there.0).both there.2)))

        by : (b : Bool) → is_tested a.mode (links_by (asked_end a.property)) (link_of e) ≡ b → OneWeighed (link_of e)
        by false not_tested = untested e is not_tested (not_tested_far (value_work prims name_property) (λ o. (name o).weighs) name_work)
        by true tested = weighed_tested prims a.property (link_rest e a c) (link_clauses e a c (clauses_of a.sort c)) s a.mode (below prims a c) tested (point (tested_given e not_given_untested tested))

  pub one_paid : OnObjects (answers_of a.property) (FarWeighed prims a c) → OneWeighed (link_template a c (clauses_of a.sort c))
  one_paid paid = by (answers_of a.property) refl paid
    where
      style : (e : Expects) (is : answers_of a.property ≡ e) → holds_values e ≡ false → ((n : ℕ) → on_far e n ≡ n)
          → link_clauses e a c (clauses_of a.sort c) ≡ far_clause a.property (object_test a.test ++ object_tests c) (unless_literal a.given (clauses_of a.sort c)) → FarWeighed prims a c → (b : Bool) → is_clause a.style ≡ b → OneWeighed (link_of e)
      style e is objects whole far paid true as_one = printing e is objects whole far as_one paid
      style e is objects whole far paid false as_one = plain e is objects whole far as_one

      by : (e : Expects) → answers_of a.property ≡ e → OnObjects e (FarWeighed prims a c) → OneWeighed (link_template a c (clauses_of a.sort c))
      by (a_value v) is paid = subst OneWeighed (sym (as_shaped (a_value v) is)) (values v is)
      by a_key is paid = subst OneWeighed (sym (as_shaped a_key is)) (keys is)
      by an_object_of_system is paid = subst OneWeighed (sym (as_shaped an_object_of_system is)) (style an_object_of_system is refl (λ n. refl) refl paid (is_clause a.style) refl)
      by a_plain_object is paid = subst OneWeighed (sym (as_shaped a_plain_object is)) (style a_plain_object is refl (λ n. refl) refl paid (is_clause a.style) refl)

-- ---- sort keys

module _ (prims : List Primitive) (s : ℕ) where
  -- the clause of one sort key
  one_key : (p : Property) (k : Rattle.gd_defs.specs.Data.Kind) → 8 * one_build prims p (template (end_is Typ p.stored ∷ (language_test p.language ++ of_kind k ∷ [])) no_clauses) s ≤ 63 * value_work prims p s
  one_key p k = total _ _ _ _ (builds_most prims p (language_test p.language ++ of_kind k ∷ []) no_clauses s)
      (sum_parts 1 (λ k. 0) (link_turns prims p (language_test p.language ++ of_kind k ∷ []) no_clauses s) 0 (near prims p s) (λ x. one (passes_template prims (of_these prims p (language_test p.language ++ of_kind k ∷ []) no_clauses s) x)))
    where
      one : (b : Bool) → 0 + (if b then 1 + 0 else 0) ≤ 1 + 0 * 0
      one true = omega arith
      one false = omega arith

      total : (b f x n : ℕ) → b ≤ 3 + f + x → x ≤ 1 * n + 0 * sum_by (λ (k : ℕ). 0) (near prims p s) → 8 * b ≤ 63 * (1 + f + n)
      total b f x n one two = omega (arith, one, two)

  in_front : (b d t n : ℕ) (passes : Bool) → 8 * b ≤ 63 * n → 16 * (0 + t) + (if passes then 8 * (b + d) else 0) ≤ 63 * n + (16 * t + (if passes then 8 * d else 0))
  in_front b d t n true less = omega (arith, less)
  in_front b d t n false less = omega arith

  only_behind : (n m : ℕ) → n ≤ m + n
  only_behind n m = omega arith

  property_paid : (p : Property) (descending : Bool) (ss : List SortKey) → weighed prims (sort_clauses (record { key = by_property p; descending = descending } ∷ ss)) s ≤ 63 * value_work prims p s + weighed prims (sort_clauses ss) s
  property_paid p descending ss = elim (expects_known prims s (expects_of p.expected)) [
    | inl value ↦ rw (value.1) (in_front (one_build prims p (template (end_is Typ p.stored ∷ (language_test p.language ++ of_kind value.0 ∷ [])) no_clauses) s) (clauses_build_turns prims (sort_clauses ss) s) (clauses_test_turns prims (sort_clauses ss) s) (value_work prims p s) (passes_clauses prims (sort_clauses ss) s) (one_key p value.0))
    | inr other ↦ elim other [
      | inl is ↦ rw is (only_behind (weighed prims (sort_clauses ss) s) (63 * value_work prims p s))
      | inr object ↦ elim object [
        | inl is ↦ rw is (only_behind (weighed prims (sort_clauses ss) s) (63 * value_work prims p s))
        | inr is ↦ rw is (only_behind (weighed prims (sort_clauses ss) s) (63 * value_work prims p s))
      ]
    ]
  ]

  key_paid : (k : Key) (descending : Bool) (ss : List SortKey) → weighed prims (sort_clauses (record { key = k; descending = descending } ∷ ss)) s ≤ 63 * sort_work prims (record { key = k; descending = descending } ∷ []) s + weighed prims (sort_clauses ss) s
  key_paid by_guid descending ss = only_behind (weighed prims (sort_clauses ss) s) _
  key_paid by_timestamp descending ss = only_behind (weighed prims (sort_clauses ss) s) _
  key_paid (by_property p) descending ss = whole _ _ _ (property_paid p descending ss)
    where
      whole : (n w m : ℕ) → n ≤ 63 * w + m → n ≤ 63 * (0 + w) + m
      whole n w m less = omega (arith, less)

  sort_split : {A : Type 0} (f : A → ℕ) (x : A) (xs : List A) (n m : ℕ) → n ≤ 63 * sum_by f (x ∷ []) + m → m ≤ 63 * sum_by f xs → n ≤ 63 * sum_by f (x ∷ xs)
  sort_split f x xs n m one two = by _ _ _ _ (sum_by-cons f x xs) (sum_by-cons f x []) one two
    where
      by : (a r t u : ℕ) → t ≡ a + r → u ≡ a + 0 → n ≤ 63 * u + m → m ≤ 63 * r → n ≤ 63 * t
      by a r t u is one_is one two = omega (arith, is, one_is, one, two)

  sort_paid : (ss : List SortKey) → weighed prims (sort_clauses ss) s ≤ 63 * sort_work prims ss s
  sort_paid [] = omega arith
  sort_paid (x ∷ ss) = sort_split _ x ss (weighed prims (sort_clauses (x ∷ ss)) s) (weighed prims (sort_clauses ss) s) (key_paid x.key x.descending ss) (sort_paid ss)

-- ---- all members

-- LAW: the work of an object pays for what the clauses of members take there
pub members_weighed : (prims : List Primitive) (ms : Members) (sort : List SortKey) → AreFormed ms → (s : ℕ) → weighed prims (clauses_of sort ms) s ≤ 63 * work prims sort ms s
members_weighed prims no_members sort formed s = sort_paid prims s sort
members_weighed prims (own name w t operand ms) sort formed s = members_weighed prims ms sort formed s
members_weighed prims (asks name a c ms) sort formed s =
    both (is_met_by prims a.mode a.property (link_template a c (clauses_of a.sort c)) s)
    (not (is_required a.mode && false) || list_any (passes_template prims (link_template a c (clauses_of a.sort c))) (led_to prims (links_by (asked_end a.property)) s))
    (passes_clauses prims (clauses_of sort ms) s) _ _ _ _ _ _
    (one_paid prims a c s formed.0 (on_objects (answers_of a.property) formed.1.0 (λ are. λ o. members_weighed prims c a.sort are o))) (members_weighed prims ms sort formed.1.1 s)
  where
    plain : (t b n u d m : ℕ) → 16 * t + 8 * b ≤ 63 * n → 16 * u + 8 * d ≤ 63 * m → 16 * (t + u) + 8 * (b + d) ≤ 63 * (n + m)
    plain t b n u d m one two = omega (arith, one, two)

    fails : (t x n u y m : ℕ) → 16 * t + x ≤ 63 * n → 16 * u + y ≤ 63 * m → 16 * (t + u) + 0 ≤ 63 * (n + m)
    fails t x n u y m one two = omega (arith, one, two)

    both : (a e r : Bool) (t b n u d m : ℕ) → 16 * t + (if a then 8 * b else 0) ≤ 63 * n → 16 * u + (if r then 8 * d else 0) ≤ 63 * m → 16 * (t + u) + (if (a && e) && r then 8 * (b + d) else 0) ≤ 63 * (n + m)
    both true true true t b n u d m one two = plain t b n u d m one two
    both true true false t b n u d m one two = fails t (8 * b) n u 0 m one two
    both true false r t b n u d m one two = fails t (8 * b) n u (if r then 8 * d else 0) m one two
    both false e r t b n u d m one two = fails t 0 n u (if r then 8 * d else 0) m one two
