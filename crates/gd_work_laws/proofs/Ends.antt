-- The clauses of the links of a member: what they take.
use Rattle.std.proofs.Common.{◌≡◌, ℕ, ◌+◌, ◌≤◌, List, [], ◌∷◌, ◌++◌, length, Bool, true, false, Option, Some, None, refl, subst, arith}
use Rattle.std.specs.Prelude.{sum_by, if◌then◌else◌}
use Rattle.std.specs.Option.{option_map_or, option_to_list}
use Rattle.gd_prim.specs.declared.Primitive.{Primitive}
use Rattle.gd_prim.specs.declared.End.TheVariants.{Typ}
use Rattle.gd_prim.specs.End.{end_of}
use Rattle.gd_prim.specs.Live.{end_at, is_live}
use Rattle.gd_defs.specs.Data.{of_text}
use Rattle.gd_defs.specs.Property.{Property, Expects, a_value, a_key, an_object_of_system, a_plain_object, far_end}
use Rattle.gd_defs.specs.Asked.{Asking, Members}
use Rattle.gd_defs.specs.Plan.{language_test, value_test, link_tests, namespace_tests, object_test, object_tests, unless_literal, answer_end}
use Rattle.gd_defs.specs.Template.{Constraint, end_is, is_object, place_in, Template, template, Clauses, no_clauses, meets_constraints, passes_template}
use Rattle.gd_template_laws.proofs.Bools.{and-false}
use Rattle.gd_template_laws.proofs.Shapes.{far_clause, shaped, answer_end-at}
use Rattle.gd_work_laws.specs.Turns.{test_turns, clauses_test_turns, build_turns, clauses_build_turns}

-- ---- ends

end_sum : (f : ℕ → ℕ) (o : Option ℕ) → sum_by f (option_to_list o) ≤ option_map_or f o 0
end_sum f None = omega arith
end_sum f (Some x) = omega arith

end_one : (o : Option ℕ) → length (option_to_list o) ≤ 1
end_one None = omega arith
end_one (Some x) = omega arith

-- what is chosen is at most both
pub if_most : (b : Bool) (m n : ℕ) → m ≤ n → (if b then m else 0) ≤ n
if_most true m n less = less
if_most false m n less = omega arith

-- at the other end of a link, if there is one
pub at_far : (f g : ℕ → ℕ) (n m : ℕ) (o : Option ℕ) → ((x : ℕ) → f x ≤ n + g x) → option_map_or f o 0 ≤ n + option_map_or g o 0
at_far f g n m None less = omega arith
at_far f g n m (Some x) less = less x

pub at_more : (f g : ℕ → ℕ) (o : Option ℕ) → ((x : ℕ) → f x ≤ g x) → option_map_or f o 0 ≤ option_map_or g o 0
at_more f g None less = omega arith
at_more f g (Some x) less = less x

-- ---- the clause that only what is no literal has

module _ (prims : List Primitive) where
  -- it adds nothing to a test
  pub unless_test : (given : Bool) (rest : Clauses) (k : ℕ) → clauses_test_turns prims (unless_literal given rest) k ≤ clauses_test_turns prims rest k
  unless_test true rest k = omega arith
  unless_test false rest k = omega arith

  nowhere : (x : ℕ) → meets_constraints prims (place_in [] ∷ []) x ≡ false
  nowhere x = and-false (is_live prims x)

  abbrev nothing : Template
  nothing = template (place_in [] ∷ []) no_clauses

  nothing_there : (x : ℕ) → test_turns prims nothing x + (if passes_template prims nothing x then build_turns prims nothing x else 0) ≤ 0
  nothing_there x = rw (nowhere x) (omega arith)

  none_add : (f : ℕ → ℕ) (o : Option ℕ) → ((x : ℕ) → f x ≤ 0) → sum_by f (option_to_list o) ≤ 0
  none_add f None none = omega arith
  none_add f (Some x) none = let one = none x in omega (arith, one)

  -- and two turns to building
  pub unless_build : (given : Bool) (rest : Clauses) (k : ℕ) → clauses_build_turns prims (unless_literal given rest) k ≤ 2 + clauses_build_turns prims rest k
  unless_build true rest k = omega arith
  unless_build false rest k =
      by _ _ _ (end_one (end_at (end_of Typ) prims k)) (none_add (λ x. test_turns prims nothing x + (if passes_template prims nothing x then build_turns prims nothing x else 0)) (end_at (end_of Typ) prims k) (λ x. nothing_there x))
    where
      by : (l s r : ℕ) → l ≤ 1 → s ≤ 0 → 1 + l + s + r ≤ 2 + r
      by l s r one none = omega (arith, one, none)

  -- ---- the object at the other end

  module _ (p : Property) where
    -- that clause adds two turns to a test, and those of the object there
    pub far_test : (cs : List Constraint) (inner : Clauses) (k : ℕ) → clauses_test_turns prims (far_clause p cs inner) k ≤ 2 + option_map_or (clauses_test_turns prims inner) (far_end prims p k) 0
    far_test cs inner k = subst (λ o. clauses_test_turns prims (far_clause p cs inner) k ≤ 2 + option_map_or (clauses_test_turns prims inner) o 0) (answer_end-at prims p k) (by (end_at (end_of (answer_end p)) prims k))
      where
        there : (f g : ℕ → ℕ) (o : Option ℕ) → ((x : ℕ) → f x ≤ g x) → 1 + length (option_to_list o) + sum_by f (option_to_list o) + 0 ≤ 2 + option_map_or g o 0
        there f g None less = omega arith
        there f g (Some x) less = let one = less x in omega (arith, one)

        by : (o : Option ℕ) → 1 + length (option_to_list o) + sum_by (test_turns prims (template (is_object ∷ cs) inner)) (option_to_list o) + 0 ≤ 2 + option_map_or (clauses_test_turns prims inner) o 0
        by o = there (test_turns prims (template (is_object ∷ cs) inner)) (clauses_test_turns prims inner) o
            (λ x. if_most (meets_constraints prims (is_object ∷ cs) x) (clauses_test_turns prims inner x) (clauses_test_turns prims inner x) (omega arith))

    -- and two turns to building, with a test and the building of that object
    pub far_build : (cs : List Constraint) (inner : Clauses) (k : ℕ)
        → clauses_build_turns prims (far_clause p cs inner) k ≤ 2 + option_map_or (λ x. 1 + clauses_test_turns prims inner x + clauses_build_turns prims inner x) (far_end prims p k) 0
    far_build cs inner k =
        subst (λ o. clauses_build_turns prims (far_clause p cs inner) k ≤ 2 + option_map_or (λ x. 1 + clauses_test_turns prims inner x + clauses_build_turns prims inner x) o 0)
        (answer_end-at prims p k) (by (end_at (end_of (answer_end p)) prims k))
      where
        there : (f g : ℕ → ℕ) (o : Option ℕ) → ((x : ℕ) → f x ≤ g x) → 1 + length (option_to_list o) + sum_by f (option_to_list o) + 0 ≤ 2 + option_map_or g o 0
        there f g None less = omega arith
        there f g (Some x) less = let one = less x in omega (arith, one)

        object : Template
        object = template (is_object ∷ cs) inner

        each : (x : ℕ) → test_turns prims object x + (if passes_template prims object x then build_turns prims object x else 0) ≤ 1 + clauses_test_turns prims inner x + clauses_build_turns prims inner x
        each x = sum _ _ _ _ (if_most (meets_constraints prims (is_object ∷ cs) x) (clauses_test_turns prims inner x) (clauses_test_turns prims inner x) (omega arith))
            (if_most (passes_template prims object x) (1 + clauses_build_turns prims inner x) (1 + clauses_build_turns prims inner x) (omega arith))
          where
            sum : (a b t u : ℕ) → a ≤ t → b ≤ 1 + u → a + b ≤ 1 + t + u
            sum a b t u one two = omega (arith, one, two)

        by : (o : Option ℕ) → 1 + length (option_to_list o) + sum_by (λ x. test_turns prims object x + (if passes_template prims object x then build_turns prims object x else 0)) (option_to_list o) + 0
            ≤ 2 + option_map_or (λ x. 1 + clauses_test_turns prims inner x + clauses_build_turns prims inner x) o 0
        by o = there _ (λ x. 1 + clauses_test_turns prims inner x + clauses_build_turns prims inner x) o each

-- ---- the clauses of a link, by what the answers are

abbrev pub link_clauses : Expects → Asking → Members → Clauses → Clauses
link_clauses (a_value k) a c nested = unless_literal a.given no_clauses
link_clauses a_key a c nested = unless_literal a.given (far_clause a.property (namespace_tests c) no_clauses)
link_clauses an_object_of_system a c nested = far_clause a.property (object_test a.test ++ object_tests c) (unless_literal a.given nested)
link_clauses a_plain_object a c nested = far_clause a.property (object_test a.test ++ object_tests c) (unless_literal a.given nested)

abbrev pub link_rest : Expects → Asking → Members → List Constraint
link_rest (a_value k) a c = language_test a.property.language ++ (value_test k a.test ++ link_tests k c)
link_rest a_key a c = language_test a.property.language ++ (value_test of_text a.test ++ link_tests of_text c)
link_rest an_object_of_system a c = language_test a.property.language
link_rest a_plain_object a c = language_test a.property.language

pub split : (e : Expects) (a : Asking) (c : Members) (nested : Clauses) → shaped e a c nested ≡ template (end_is Typ a.property.stored ∷ link_rest e a c) (link_clauses e a c nested)
split (a_value k) a c nested = refl
split a_key a c nested = refl
split an_object_of_system a c nested = refl
split a_plain_object a c nested = refl

-- what counts at the other end of a link: nothing where the answers are values
abbrev pub on_far : Expects → ℕ → ℕ
on_far (a_value k) n = 0
on_far a_key n = 0
on_far an_object_of_system n = n
on_far a_plain_object n = n

add : (a b c d : ℕ) → a ≤ b + c → c ≤ d → a ≤ b + d
add a b c d one two = omega (arith, one, two)

module _ (prims : List Primitive) (a : Asking) (c : Members) (nested : Clauses) where
  far_object_test : (cs : List Constraint) (k : ℕ) → clauses_test_turns prims (far_clause a.property cs (unless_literal a.given nested)) k ≤ 2 + option_map_or (clauses_test_turns prims nested) (far_end prims a.property k) 0
  far_object_test cs k = add _ 2 _ _ (far_test prims a.property cs (unless_literal a.given nested) k)
      (at_more (clauses_test_turns prims (unless_literal a.given nested)) (clauses_test_turns prims nested) (far_end prims a.property k) (λ x. unless_test prims a.given nested x))

  far_object_build : (cs : List Constraint) (k : ℕ) → clauses_build_turns prims (far_clause a.property cs (unless_literal a.given nested)) k
      ≤ 5 + option_map_or (λ x. clauses_test_turns prims nested x + clauses_build_turns prims nested x) (far_end prims a.property k) 0
  far_object_build cs k = sum _ _ _ (far_build prims a.property cs (unless_literal a.given nested) k)
      (at_far (λ x. 1 + clauses_test_turns prims (unless_literal a.given nested) x + clauses_build_turns prims (unless_literal a.given nested) x) (λ x. clauses_test_turns prims nested x + clauses_build_turns prims nested x) 3 0
      (far_end prims a.property k) (λ x. each _ _ _ _ (unless_test prims a.given nested x) (unless_build prims a.given nested x)))
    where
      sum : (a b c : ℕ) → a ≤ 2 + b → b ≤ 3 + c → a ≤ 5 + c
      sum a b c one two = omega (arith, one, two)

      each : (t b u v : ℕ) → t ≤ u → b ≤ 2 + v → 1 + t + b ≤ 3 + (u + v)
      each t b u v one two = omega (arith, one, two)

  -- of a test: two, and those of the object at the other end
  pub link_test : (e : Expects) (k : ℕ) → clauses_test_turns prims (link_clauses e a c nested) k ≤ 2 + option_map_or (λ x. on_far e (clauses_test_turns prims nested x)) (far_end prims a.property k) 0
  link_test (a_value v) k = none _ _ (unless_test prims a.given no_clauses k)
    where
      none : (n m : ℕ) → n ≤ 0 → n ≤ 2 + m
      none n m less = omega (arith, less)
  link_test a_key k = none _ _ _ (unless_test prims a.given (far_clause a.property (namespace_tests c) no_clauses) k)
      (add _ 2 _ _ (far_test prims a.property (namespace_tests c) no_clauses k) (at_more (λ x. 0) (λ x. on_far a_key (clauses_test_turns prims nested x)) (far_end prims a.property k) (λ x. omega arith)))
    where
      none : (n m l : ℕ) → n ≤ m → m ≤ 2 + l → n ≤ 2 + l
      none n m l one two = omega (arith, one, two)
  link_test an_object_of_system k = far_object_test (object_test a.test ++ object_tests c) k
  link_test a_plain_object k = far_object_test (object_test a.test ++ object_tests c) k

  -- of building: five, and those of a test and the building of the object at the other end
  pub link_build : (e : Expects) (k : ℕ) → clauses_build_turns prims (link_clauses e a c nested) k
      ≤ 5 + option_map_or (λ x. on_far e (clauses_test_turns prims nested x + clauses_build_turns prims nested x)) (far_end prims a.property k) 0
  link_build (a_value v) k = none _ _ (unless_build prims a.given no_clauses k)
    where
      none : (n m : ℕ) → n ≤ 2 → n ≤ 5 + m
      none n m less = omega (arith, less)
  link_build a_key k = none _ _ _ _ (unless_build prims a.given (far_clause a.property (namespace_tests c) no_clauses) k) (far_build prims a.property (namespace_tests c) no_clauses k)
      (at_far (λ x. 1) (λ x. on_far a_key (clauses_test_turns prims nested x + clauses_build_turns prims nested x)) 1 0 (far_end prims a.property k) (λ x. omega arith))
    where
      none : (n m l o : ℕ) → n ≤ 2 + m → m ≤ 2 + l → l ≤ 1 + o → n ≤ 5 + o
      none n m l o one two three = omega (arith, one, two, three)
  link_build an_object_of_system k = far_object_build (object_test a.test ++ object_tests c) k
  link_build a_plain_object k = far_object_build (object_test a.test ++ object_tests c) k

  -- the links of values: nothing, and two
  pub value_test_none : (v : _) (k : ℕ) → clauses_test_turns prims (link_clauses (a_value v) a c nested) k ≤ 0
  value_test_none v k = unless_test prims a.given no_clauses k

  pub value_build_two : (v : _) (k : ℕ) → clauses_build_turns prims (link_clauses (a_value v) a c nested) k ≤ 2
  value_build_two v k = unless_build prims a.given no_clauses k
