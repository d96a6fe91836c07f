-- What is looked at below an object: its work pays for that, and its tree has no more places.
use Rattle.std.proofs.Common.{◌≡◌, ◌∙◌, ℕ, ◌+◌, ◌*◌, ◌≤◌, List, [], ◌∷◌, ◌++◌, length, map, filter, Bool, true, false, cond, Option, Some, None, inl, inr, refl, sym, subst, arith}
use Rattle.std.specs.Prelude.{sum_by, if◌then◌else◌}
use Rattle.std.specs.Option.{option_map_or, option_to_list}
use Rattle.std.proofs.lemmas.List.Sums.{sum_by-cons}
use Rattle.gd_prim.specs.declared.Primitive.{Primitive}
use Rattle.gd_prim.specs.declared.End.TheVariants.{Typ}
use Rattle.gd_prim.specs.End.{end_of}
use Rattle.gd_prim.specs.Live.{end_at, is_live}
use Rattle.gd_tree.specs.Trees.{tree_count, trees_count, lists_count, trees_of}
use Rattle.gd_defs.specs.Data.{Kind, of_text}
use Rattle.gd_defs.specs.Property.{Property, Expects, a_value, a_key, an_object_of_system, a_plain_object, expects_of, holds_values, far_end}
use Rattle.gd_defs.specs.Asked.{by_property, SortKey, Asking, Members, no_members, own, asks, Asked, name_property}
use Rattle.gd_defs.specs.Plan.{language_test, of_kind, namespace_tests, object_test, object_tests, unless_literal, asked_end, answer_end, answers_of, link_template, sort_clauses, clauses_of, template_of}
use Rattle.gd_defs.specs.Template.{Constraint, end_is, is_object, place_in, links_by, led_to, Template, template, Clauses, no_clauses, clause, meets_constraints, meets_clauses, is_answer, tree_of, clause_lists}
use Rattle.gd_defs.specs.Reply.{is_clause}
use Rattle.gd_match_laws.specs.PassedOn.{near, few, each_far, value_work, work}
use Rattle.gd_match_laws.proofs.PassedOn.{both_true}
use Rattle.gd_template_laws.specs.Laws.{OnObjects}
use Rattle.gd_template_laws.proofs.Bools.{and-false}
use Rattle.gd_template_laws.proofs.Shapes.{far_clause, link_template-shaped, answer_end-at}
use Rattle.gd_work_laws.specs.Turns.{looked_at}
use Rattle.gd_work_laws.specs.Below.{reached, clauses_reached}
use Rattle.gd_work_laws.specs.Formed.{IsNameOnly, IsFormed, AreFormed}
use Rattle.gd_work_laws.proofs.Sums.{sum_parts}
use Rattle.gd_work_laws.proofs.Links.{looked_few, links_sum, far_work}
use Rattle.gd_work_laws.proofs.Ends.{if_most, link_clauses, link_rest, split, on_far}
use Rattle.gd_work_laws.proofs.Sorts.{sort_paid}
use Rattle.gd_work_laws.proofs.Members.{below, far_objects, named_template, on_objects, expects_known}

-- ---- trees

module _ (prims : List Primitive) where
  each_tree : (t : Template) (xs : List ℕ) → ((x : ℕ) → is_answer prims t x ≡ true → tree_count (tree_of prims t x) ≤ reached prims t x) → trees_count (trees_of (map (tree_of prims t) (filter (is_answer prims t) xs))) ≤ sum_by (reached prims t) xs
  each_tree t [] less = omega arith
  each_tree t (x ∷ xs) less = by (is_answer prims t x) refl (sum_by-cons (reached prims t) x xs) (each_tree t xs less)
    where
      keep : (a b r s u : ℕ) → u ≡ b + s → a ≤ b → r ≤ s → a + r ≤ u
      keep a b r s u is here rest = omega (arith, is, here, rest)

      pass : (b r s u : ℕ) → u ≡ b + s → r ≤ s → r ≤ u
      pass b r s u is rest = omega (arith, is, rest)

      by : (b : Bool) → is_answer prims t x ≡ b → sum_by (reached prims t) (x ∷ xs) ≡ reached prims t x + sum_by (reached prims t) xs
          → trees_count (trees_of (map (tree_of prims t) (filter (is_answer prims t) xs))) ≤ sum_by (reached prims t) xs
          → trees_count (trees_of (map (tree_of prims t) (cond b (x ∷ filter (is_answer prims t) xs) (filter (is_answer prims t) xs)))) ≤ sum_by (reached prims t) (x ∷ xs)
      by true found is rest = keep _ _ _ _ _ is (less x found) rest
      by false found is rest = pass (reached prims t x) _ _ _ is rest

  mutual
    tree_below : (t : Template) (x : ℕ) → is_answer prims t x ≡ true → tree_count (tree_of prims t x) ≤ reached prims t x
    tree_below (template cs inner) x found =
        met (meets_constraints prims cs x) (both_true (meets_constraints prims cs x) (meets_clauses prims inner x) found).0 (lists_below inner x)
      where
        met : (b : Bool) → b ≡ true → lists_count (clause_lists prims inner x) ≤ clauses_reached prims inner x → 1 + lists_count (clause_lists prims inner x) ≤ (if b then 1 + clauses_reached prims inner x else 0)
        met true is less = omega (arith, less)
        met false is less = absurd (cc)

    pub lists_below : (inner : Clauses) (x : ℕ) → lists_count (clause_lists prims inner x) ≤ clauses_reached prims inner x
    lists_below no_clauses x = omega arith
    lists_below (clause mode hop t rest) x = sum _ _ _ _ _ (each_tree t (led_to prims hop x) (λ y found. tree_below t y found)) (lists_below rest x)
      where
        sum : (a b c d l : ℕ) → a ≤ b → c ≤ d → a + c ≤ l + b + d
        sum a b c d l one two = omega (arith, one, two)

-- ---- the clauses of links

module _ (prims : List Primitive) where
  nowhere_reached : (k : ℕ) (o : Option ℕ) → sum_by (reached prims (template (place_in [] ∷ []) no_clauses)) (option_to_list o) ≤ 0
  nowhere_reached k None = omega arith
  nowhere_reached k (Some x) = rw (and-false (is_live prims x)) (omega arith)

  one_end : (o : Option ℕ) → length (option_to_list o) ≤ 1
  one_end None = omega arith
  one_end (Some x) = omega arith

  unless_reached : (given : Bool) (rest : Clauses) (k : ℕ) → clauses_reached prims (unless_literal given rest) k ≤ 1 + clauses_reached prims rest k
  unless_reached true rest k = omega arith
  unless_reached false rest k = by _ _ _ (one_end (end_at (end_of Typ) prims k)) (nowhere_reached k (end_at (end_of Typ) prims k))
    where
      by : (l s r : ℕ) → l ≤ 1 → s ≤ 0 → l + s + r ≤ 1 + r
      by l s r one none = omega (arith, one, none)

  far_reached : (p : Property) (cs : List Constraint) (inner : Clauses) (k : ℕ) → clauses_reached prims (far_clause p cs inner) k ≤ 2 + option_map_or (clauses_reached prims inner) (far_end prims p k) 0
  far_reached p cs inner k = subst (λ o. clauses_reached prims (far_clause p cs inner) k ≤ 2 + option_map_or (clauses_reached prims inner) o 0) (answer_end-at prims p k) (by (end_at (end_of (answer_end p)) prims k))
    where
      there : (f g : ℕ → ℕ) (o : Option ℕ) → ((x : ℕ) → f x ≤ 1 + g x) → length (option_to_list o) + sum_by f (option_to_list o) + 0 ≤ 2 + option_map_or g o 0
      there f g None less = omega arith
      there f g (Some x) less = let one = less x in omega (arith, one)

      by : (o : Option ℕ) → length (option_to_list o) + sum_by (reached prims (template (is_object ∷ cs) inner)) (option_to_list o) + 0 ≤ 2 + option_map_or (clauses_reached prims inner) o 0
      by o = there (reached prims (template (is_object ∷ cs) inner)) (clauses_reached prims inner) o
          (λ x. if_most (meets_constraints prims (is_object ∷ cs) x) (1 + clauses_reached prims inner x) (1 + clauses_reached prims inner x) (omega arith))

module _ (prims : List Primitive) (a : Asking) (c : Members) (nested : Clauses) where
  object_reached : (cs : List Constraint) (k : ℕ) → clauses_reached prims (far_clause a.property cs (unless_literal a.given nested)) k ≤ 3 + option_map_or (clauses_reached prims nested) (far_end prims a.property k) 0
  object_reached cs k = more _ (far_end prims a.property k) (far_reached prims a.property cs (unless_literal a.given nested) k)
    where
      more : (n : ℕ) (o : Option ℕ) → n ≤ 2 + option_map_or (clauses_reached prims (unless_literal a.given nested)) o 0 → n ≤ 3 + option_map_or (clauses_reached prims nested) o 0
      more n None less = omega (arith, less)
      more n (Some x) less = let one = unless_reached prims a.given nested x in omega (arith, less, one)

  link_reached : (e : Expects) (k : ℕ) → clauses_reached prims (link_clauses e a c nested) k ≤ 3 + option_map_or (λ x. on_far e (clauses_reached prims nested x)) (far_end prims a.property k) 0
  link_reached (a_value v) k = more _ _ (unless_reached prims a.given no_clauses k)
    where
      more : (n m : ℕ) → n ≤ 1 + 0 → n ≤ 3 + m
      more n m less = omega (arith, less)
  link_reached a_key k = more _ _ (far_end prims a.property k) (unless_reached prims a.given (far_clause a.property (namespace_tests c) no_clauses) k) (far_reached prims a.property (namespace_tests c) no_clauses k)
    where
      more : (n m : ℕ) (o : Option ℕ) → n ≤ 1 + m → m ≤ 2 + option_map_or (λ x. 0) o 0 → n ≤ 3 + option_map_or (λ x. on_far a_key (clauses_reached prims nested x)) o 0
      more n m None one two = omega (arith, one, two)
      more n m (Some x) one two = omega (arith, one, two)
  link_reached an_object_of_system k = object_reached (object_test a.test ++ object_tests c) k
  link_reached a_plain_object k = object_reached (object_test a.test ++ object_tests c) k

  value_reached : (v : Kind) (k : ℕ) → clauses_reached prims (link_clauses (a_value v) a c nested) k ≤ 1
  value_reached v k = unless_reached prims a.given no_clauses k

-- ---- the clause of one member

abbrev one_reached : List Primitive → Property → Template → ℕ → ℕ
one_reached prims p t s = looked_at prims (links_by (asked_end p)) t s + sum_by (reached prims t) (led_to prims (links_by (asked_end p)) s)

module _ (prims : List Primitive) (p : Property) (cs : List Constraint) (inner : Clauses) (s : ℕ) where
  reached_most : one_reached prims p (template (end_is Typ p.stored ∷ cs) inner) s ≤ few prims p s + sum_by (λ k. 1 + clauses_reached prims inner k) (near prims p s)
  reached_most = sum _ _ _ _ (looked_few prims p s cs inner) (links_sum prims p s cs (reached prims (template (end_is Typ p.stored ∷ cs) inner)) (λ k. 1 + clauses_reached prims inner k) (λ x is. rw is refl)
      (λ x. if_most (meets_constraints prims (end_is Typ p.stored ∷ cs) x) (1 + clauses_reached prims inner x) (1 + clauses_reached prims inner x) (omega arith)))
    where
      sum : (l f a b : ℕ) → l ≡ f → a ≤ b → l + a ≤ f + b
      sum l f a b one two = omega (arith, one, two)

  reached_paid : (F : ℕ → ℕ) → ((k : ℕ) → 1 + clauses_reached prims inner k ≤ 0 + 4 * (1 + option_map_or F (far_end prims p k) 0)) → one_reached prims p (template (end_is Typ p.stored ∷ cs) inner) s ≤ 4 * (1 + few prims p s + each_far prims p s F)
  reached_paid F less = total _ _ _ _ _ _ reached_most
      (sum_parts 0 (λ k. 1 + option_map_or F (far_end prims p k) 0) (λ k. 1 + clauses_reached prims inner k) 4 (near prims p s) less)
      (far_work prims p s F (λ k. 1 + option_map_or F (far_end prims p k) 0) (λ k. omega arith))
    where
      total : (b f x n w e : ℕ) → b ≤ f + x → x ≤ 0 * n + 4 * w → w ≤ e → b ≤ 4 * (1 + f + e)
      total b f x n w e one two three = omega (arith, one, two, three)

  values_reached : ((k : ℕ) → clauses_reached prims inner k ≤ 1) → one_reached prims p (template (end_is Typ p.stored ∷ cs) inner) s ≤ 4 * value_work prims p s
  values_reached few_below = total _ _ _ _ reached_most (sum_parts 2 (λ k. 0) (λ k. 1 + clauses_reached prims inner k) 0 (near prims p s) (λ k. two _ (few_below k)))
    where
      two : (t : ℕ) → t ≤ 1 → 1 + t ≤ 2 + 0 * 0
      two t one = omega (arith, one)

      total : (b f x n : ℕ) → b ≤ f + x → x ≤ 2 * n + 0 * sum_by (λ (k : ℕ). 0) (near prims p s) → b ≤ 4 * (1 + f + n)
      total b f x n one more = omega (arith, one, more)

module _ (prims : List Primitive) where
  name_reached : (a : Asking) (c : Members) (s : ℕ) → a.property ≡ name_property → one_reached prims a.property (link_template a c (clauses_of a.sort c)) s ≤ 4 * value_work prims name_property s
  name_reached a c s named =
      subst (λ p. one_reached prims a.property (link_template a c (clauses_of a.sort c)) s ≤ 4 * value_work prims p s) named
      (subst (λ t. one_reached prims a.property t s ≤ 4 * value_work prims a.property s) (sym (named_template a c (clauses_of a.sort c) named))
      (values_reached prims a.property (link_rest (a_value of_text) a c) (link_clauses (a_value of_text) a c (clauses_of a.sort c)) s (λ k. value_reached prims a c (clauses_of a.sort c) of_text k)))

  name_only_reached : (c : Members) (sort : List SortKey) (s : ℕ) → sort ≡ [] → IsNameOnly c → clauses_reached prims (clauses_of sort c) s ≤ 4 * value_work prims name_property s
  name_only_reached no_members sort s unsorted only = rw unsorted (omega arith)
  name_only_reached (own name w t j ms) sort s unsorted only = absurd only
  name_only_reached (asks name a c ms) sort s unsorted only = rw (unsorted, only.1) (no_more _ _ (name_reached a c s only.0))
    where
      no_more : (b n : ℕ) → b ≤ n → b + 0 ≤ n
      no_more b n less = omega (arith, less)

-- ---- members

module _ (prims : List Primitive) (a : Asking) (c : Members) (s : ℕ) (formed : IsFormed a c) where
  shaped_reached : (e : Expects) → answers_of a.property ≡ e → ((o : ℕ) → on_far e (clauses_reached prims (clauses_of a.sort c) o) ≤ 4 * below prims a c o)
      → one_reached prims a.property (link_template a c (clauses_of a.sort c)) s ≤ 4 * (1 + few prims a.property s + each_far prims a.property s (below prims a c))
  shaped_reached e is far =
      subst (λ t. one_reached prims a.property t s ≤ 4 * (1 + few prims a.property s + each_far prims a.property s (below prims a c)))
      (sym (link_template-shaped a c (clauses_of a.sort c) e is ∙ split e a c (clauses_of a.sort c)))
      (reached_paid prims a.property (link_rest e a c) (link_clauses e a c (clauses_of a.sort c)) s (below prims a c) (λ k. one (far_end prims a.property k) _ (link_reached prims a c (clauses_of a.sort c) e k)))
    where
      one : (o : Option ℕ) (n : ℕ) → n ≤ 3 + option_map_or (λ x. on_far e (clauses_reached prims (clauses_of a.sort c) x)) o 0 → 1 + n ≤ 0 + 4 * (1 + option_map_or (below prims a c) o 0)
      one None n less = omega (arith, less)
      one (Some x) n less = let there = far x in omega (arith, less, there)

  object_far : (e : Expects) → answers_of a.property ≡ e → holds_values e ≡ false → ((o : ℕ) → clauses_reached prims (clauses_of a.sort c) o ≤ 4 * work prims a.sort c o) → (o : ℕ) → clauses_reached prims (clauses_of a.sort c) o ≤ 4 * below prims a c o
  object_far e is objects paid o = by (is_clause a.style) refl
    where
      by : (b : Bool) → is_clause a.style ≡ b → clauses_reached prims (clauses_of a.sort c) o ≤ 4 * below prims a c o
      by true style = subst (λ n. clauses_reached prims (clauses_of a.sort c) o ≤ 4 * n) (sym same) (paid o)
        where
          same : below prims a c o ≡ work prims a.sort c o
          same = rw (far_objects a.property e is objects, style) refl
      by false style = subst (λ n. clauses_reached prims (clauses_of a.sort c) o ≤ 4 * n) (sym same) (name_only_reached prims c a.sort o (formed.plain style).1 (formed.plain style).0)
        where
          same : below prims a c o ≡ value_work prims name_property o
          same = rw (far_objects a.property e is objects, style) refl

  pub member_reached : OnObjects (answers_of a.property) ((o : ℕ) → clauses_reached prims (clauses_of a.sort c) o ≤ 4 * work prims a.sort c o)
      → one_reached prims a.property (link_template a c (clauses_of a.sort c)) s ≤ 4 * (1 + few prims a.property s + each_far prims a.property s (below prims a c))
  member_reached paid = by (answers_of a.property) refl paid
    where
      by : (e : Expects) → answers_of a.property ≡ e → OnObjects e ((o : ℕ) → clauses_reached prims (clauses_of a.sort c) o ≤ 4 * work prims a.sort c o)
          → one_reached prims a.property (link_template a c (clauses_of a.sort c)) s ≤ 4 * (1 + few prims a.property s + each_far prims a.property s (below prims a c))
      by (a_value k) is paid = shaped_reached (a_value k) is (λ o. omega arith)
      by a_key is paid = shaped_reached a_key is (λ o. omega arith)
      by an_object_of_system is paid = shaped_reached an_object_of_system is (object_far an_object_of_system is refl paid)
      by a_plain_object is paid = shaped_reached a_plain_object is (object_far a_plain_object is refl paid)

-- ---- sort keys

module _ (prims : List Primitive) (s : ℕ) where
  behind : (r n : ℕ) → r ≤ n + r
  behind r n = omega arith

  in_front : (b r n : ℕ) → b ≤ n → b + r ≤ n + r
  in_front b r n less = omega (arith, less)

  property_reached : (p : Property) (descending : Bool) (ss : List SortKey) → clauses_reached prims (sort_clauses (record { key = by_property p; descending = descending } ∷ ss)) s ≤ 4 * value_work prims p s + clauses_reached prims (sort_clauses ss) s
  property_reached p descending ss = elim (expects_known prims s (expects_of p.expected)) [
    | inl value ↦ rw (value.1) (in_front (one_reached prims p (template (end_is Typ p.stored ∷ (language_test p.language ++ of_kind value.0 ∷ [])) no_clauses) s) (clauses_reached prims (sort_clauses ss) s) (4 * value_work prims p s)
        (values_reached prims p (language_test p.language ++ of_kind value.0 ∷ []) no_clauses s (λ k. omega arith)))
    | inr other ↦ elim other [
      | inl is ↦ rw is (behind (clauses_reached prims (sort_clauses ss) s) (4 * value_work prims p s))
      | inr object ↦ elim object [
        | inl is ↦ rw is (behind (clauses_reached prims (sort_clauses ss) s) (4 * value_work prims p s))
        | inr is ↦ rw is (behind (clauses_reached prims (sort_clauses ss) s) (4 * value_work prims p s))
      ]
    ]
  ]

-- ---- the whole

pub members_reached : (prims : List Primitive) (ms : Members) (sort : List SortKey) → AreFormed ms → (s : ℕ) → clauses_reached prims (clauses_of sort ms) s ≤ 4 * work prims sort ms s
members_reached prims no_members sort formed s = sort_paid prims s (λ cs. clauses_reached prims cs s) refl (property_reached prims s) sort
members_reached prims (own name w t operand ms) sort formed s = members_reached prims ms sort formed s
members_reached prims (asks name a c ms) sort formed s =
    both _ _ _ _ (member_reached prims a c s formed.0 (on_objects (answers_of a.property) formed.1.0 (λ are. λ o. members_reached prims c a.sort are o))) (members_reached prims ms sort formed.1.1 s)
  where
    both : (b n d m : ℕ) → b ≤ 4 * n → d ≤ 4 * m → b + d ≤ 4 * (n + m)
    both b n d m one two = omega (arith, one, two)

pub tree_few : (prims : List Primitive) (q : Asked) (s : ℕ) → tree_count (tree_of prims (template_of q) s) ≤ 1 + clauses_reached prims (clauses_of q.sort q.members) s
tree_few prims q s = by _ _ (lists_below prims (clauses_of q.sort q.members) s)
  where
    by : (a b : ℕ) → a ≤ b → 1 + a ≤ 1 + b
    by a b less = omega (arith, less)
