-- The template of the links of a member and the answers of its property, by what the answers are.
use Rattle.std.proofs.Common.{◌≡◌, ℕ, List, [], ◌∷◌, ◌++◌, Bool, true, false, ◌&&◌, Option, Some, None, refl, ap, sym, ◌∙◌, append-nil}
use Rattle.std.specs.List.{list_all}
use Rattle.std.specs.Option.{option_map_or}
use Rattle.std.proofs.lemmas.Bool.{and_parts}
use Rattle.std.specs.Prelude.{slice_get, filter, if◌then◌else◌, option_and_then}
use Rattle.gd_prim.specs.declared.Primitive.{Primitive}
use Rattle.gd_prim.specs.Live.{refers, live_where, passes_at, is_live, end_at, language_of}
use Rattle.gd_defs.specs.Data.{of_text, has_kind}
use Rattle.gd_defs.specs.Query.{required}
use Rattle.gd_defs.specs.Property.{is_of, in_language, Property, Expects, a_value, a_key, an_object_of_system, a_plain_object, expects_of, holds_expected, leads_to_object, answers, near_of, far_of, far_end}
use Rattle.gd_defs.specs.Asked.{Asking, Members}
use Rattle.gd_defs.specs.Plan.{property_tests, value_test, link_tests, object_test, object_tests, namespace_tests, unless_literal, asked_end, answer_end, answers_of, link_template}
use Rattle.gd_prim.specs.End.{end_of}
use Rattle.gd_defs.specs.Template.{holds, Constraint, is_object, end_here, links_by, led_to, Template, template, Clauses, no_clauses, clause}
use Rattle.gd_list_laws.proofs.Places.{live_where-places, places_where-places, filter-same, filter-filter}
use Rattle.gd_template_laws.proofs.Places.{places, passes_at-and, passes_at-same}
use Rattle.gd_template_laws.proofs.Bools.{and-true, and-false, and-assoc}
use Rattle.gd_defs.specs.Rows.{answer_meets}

-- the clause of the object at the other end of a link
abbrev pub far_clause : Property → List Constraint → Clauses → Clauses
far_clause p cs inner = clause required (end_here (answer_end p)) (template (is_object ∷ cs) inner) no_clauses

-- the template of the links of a member, by what its answers are
abbrev pub shaped : Expects → Asking → Members → Clauses → Template
shaped (a_value k) a c nested = template (property_tests a.property ++ (value_test k a.test ++ link_tests k c)) (unless_literal a.given no_clauses)
shaped a_key a c nested = template (property_tests a.property ++ (value_test of_text a.test ++ link_tests of_text c)) (unless_literal a.given (far_clause a.property (namespace_tests c) no_clauses))
shaped an_object_of_system a c nested = template (property_tests a.property) (far_clause a.property (object_test a.test ++ object_tests c) (unless_literal a.given nested))
shaped a_plain_object a c nested = template (property_tests a.property) (far_clause a.property (object_test a.test ++ object_tests c) (unless_literal a.given nested))

pub link_template-shaped : (a : Asking) (c : Members) (nested : Clauses) (e : Expects) → answers_of a.property ≡ e → link_template a c nested ≡ shaped e a c nested
link_template-shaped a c nested (a_value k) is = rw is refl
link_template-shaped a c nested a_key is = rw is refl
link_template-shaped a c nested an_object_of_system is = rw is refl
link_template-shaped a c nested a_plain_object is = rw is refl

-- ---- the links of a property

-- the constraints of a property in front of others: its links are of it
pub property_tests-hold : (prims : List Primitive) (x : ℕ) (p : Property) (cs : List Constraint) → list_all (λ c. holds prims c x) (property_tests p ++ cs) ≡ (passes_at (is_of p) prims x && list_all (λ c. holds prims c x) cs)
property_tests-hold prims x p cs = by p.language refl
  where
    rest : Bool
    rest = list_all (λ c. holds prims c x) cs

    any : (o : Option Primitive) → (option_map_or (λ (q : Primitive). refers q.typ p.stored) o false && rest) ≡ (option_map_or (λ (q : Primitive). refers q.typ p.stored && true) o false && rest)
    any None = refl
    any (Some q) = ap (λ b. b && rest) (sym (and-true (refers q.typ p.stored)))

    one : (l : ℕ) (o : Option Primitive) → (option_map_or (λ (q : Primitive). refers q.typ p.stored) o false && (option_map_or (λ (q : Primitive). refers (language_of q) l) o false && rest))
        ≡ (option_map_or (λ (q : Primitive). refers q.typ p.stored && refers (language_of q) l) o false && rest)
    one l None = refl
    one l (Some q) = sym (and-assoc (refers q.typ p.stored) (refers (language_of q) l) rest)

    by : (l : Option ℕ) → p.language ≡ l → list_all (λ c. holds prims c x) (property_tests p ++ cs) ≡ (passes_at (is_of p) prims x && rest)
    by None is = rw is (any (slice_get prims x))
    by (Some l) is = rw is (one l (slice_get prims x))

-- the constraints of a property by themselves
pub property_tests-alone : (prims : List Primitive) (x : ℕ) (p : Property) → list_all (λ c. holds prims c x) (property_tests p) ≡ (passes_at (is_of p) prims x && true)
property_tests-alone prims x p = ap (list_all (λ c. holds prims c x)) (sym (append-nil (property_tests p))) ∙ property_tests-hold prims x p []

-- what is of a property has its typ
pub of-typ : (prims : List Primitive) (x : ℕ) (p : Property) → passes_at (is_of p) prims x ≡ true → passes_at (λ q. refers q.typ p.stored) prims x ≡ true
of-typ prims x p is = (and_parts _ _ (sym (passes_at-and (λ q. refers q.typ p.stored) (in_language p) prims x) ∙ is)).0

-- ---- ends

-- a link holds what is expected, in a direction
abbrev pub holds_far : List Primitive → Expects → Property → Primitive → Bool
holds_far prims (a_value k) p q = has_kind k q.value
holds_far prims a_key p q = leads_to_object prims (far_of p q) && has_kind of_text q.value
holds_far prims an_object_of_system p q = leads_to_object prims (far_of p q)
holds_far prims a_plain_object p q = leads_to_object prims (far_of p q)

asked_end-near : (p : Property) (q : Primitive) → end_of (asked_end p) q ≡ near_of p q
asked_end-near p q = by p.reversed refl
  where
    by : (b : Bool) → p.reversed ≡ b → end_of (asked_end p) q ≡ near_of p q
    by true is = rw is refl
    by false is = rw is refl

answer_end-far : (p : Property) (q : Primitive) → end_of (answer_end p) q ≡ far_of p q
answer_end-far p q = by p.reversed refl
  where
    by : (b : Bool) → p.reversed ≡ b → end_of (answer_end p) q ≡ far_of p q
    by true is = rw is refl
    by false is = rw is refl

pub answer_end-at : (prims : List Primitive) (p : Property) (x : ℕ) → end_at (end_of (answer_end p)) prims x ≡ far_end prims p x
answer_end-at prims p x = by (slice_get prims x)
  where
    by : (o : Option Primitive) → option_and_then (end_of (answer_end p)) o ≡ option_and_then (far_of p) o
    by None = refl
    by (Some q) = answer_end-far p q

-- ---- answers

-- the answers of a property on an object are live links of its typ with the object at their near end, that hold what is expected
abbrev pub is_answer_link : List Primitive → Property → ℕ → Primitive → Bool
is_answer_link prims p o q = is_of p q && refers (near_of p q) o && holds_far prims (answers_of p) p q

pub answers-places : (prims : List Primitive) (p : Property) (o : ℕ) → answers prims p o ≡ filter (λ k. passes_at (is_answer_link prims p o) prims k && is_live prims k) (places prims)
answers-places prims p o = by p.reversed (expects_of p.expected) refl refl
  where
    same : (test : Primitive → Bool) → ((q : Primitive) → test q ≡ is_answer_link prims p o q) → live_where test prims ≡ filter (λ k. passes_at (is_answer_link prims p o) prims k && is_live prims k) (places prims)
    same test is = live_where-places test prims ∙ filter-same _ _ (places prims) (λ k. ap (λ b. b && is_live prims k) (passes_at-same test (is_answer_link prims p o) prims k is))

    backward : List ℕ
    backward = live_where (λ k. is_of p k && refers k.right o && leads_to_object prims k.left) prims

    forward : List ℕ
    forward = live_where (λ k. is_of p k && refers k.left o && holds_expected prims (expects_of p.expected) k) prims

    one : (e : Expects) (q : Primitive) → p.reversed ≡ false → expects_of p.expected ≡ e → (is_of p q && refers q.left o && holds_expected prims (expects_of p.expected) q) ≡ is_answer_link prims p o q
    one (a_value k) q turned expected = rw (turned, expected) refl
    one a_key q turned expected = rw (turned, expected) refl
    one an_object_of_system q turned expected = rw (turned, expected) refl
    one a_plain_object q turned expected = rw (turned, expected) refl

    back : (q : Primitive) → p.reversed ≡ true → (is_of p q && refers q.right o && leads_to_object prims q.left) ≡ is_answer_link prims p o q
    back q turned = rw turned refl

    by : (b : Bool) (e : Expects) → p.reversed ≡ b → expects_of p.expected ≡ e → answers prims p o ≡ filter (λ k. passes_at (is_answer_link prims p o) prims k && is_live prims k) (places prims)
    by true e turned expected = ap (λ b. if b then backward else forward) turned ∙ same (λ k. is_of p k && refers k.right o && leads_to_object prims k.left) (λ q. back q turned)
    by false e turned expected = ap (λ b. if b then backward else forward) turned ∙ same (λ k. is_of p k && refers k.left o && holds_expected prims (expects_of p.expected) k) (λ q. one e q turned expected)

-- ---- what a member asks is what the links of its template are

-- a link passes what the property and a test of links ask
abbrev pub is_link : List Primitive → Asking → (ℕ → ℕ → Bool) → ℕ → Bool
is_link prims a meets_clause x = is_live prims x && (passes_at (λ q. is_of a.property q && holds_far prims (answers_of a.property) a.property q) prims x && answer_meets prims a meets_clause x)

-- the answers that pass are the links at the near end that pass
pub links-answers : (prims : List Primitive) (a : Asking) (meets_clause : ℕ → ℕ → Bool) (test : ℕ → Bool) (o : ℕ) → ((x : ℕ) → test x ≡ is_link prims a meets_clause x)
    → filter test (led_to prims (links_by (asked_end a.property)) o) ≡ filter (answer_meets prims a meets_clause) (answers prims a.property o)
links-answers prims a meets_clause test o same =
    ap (filter test) (places_where-places (λ q. refers (end_of (asked_end a.property) q) o) prims)
    ∙ filter-filter (passes_at (λ q. refers (end_of (asked_end a.property) q) o) prims) test (places prims)
    ∙ filter-same _ _ (places prims) (λ k. one k)
    ∙ sym (filter-filter (λ k. passes_at (is_answer_link prims a.property o) prims k && is_live prims k) (answer_meets prims a meets_clause) (places prims))
    ∙ ap (filter (answer_meets prims a meets_clause)) (sym (answers-places prims a.property o))
  where
    shuffle : (n l t h m : Bool) → (n && (l && ((t && h) && m))) ≡ ((((t && n) && h) && l) && m)
    shuffle true true true h true = and-true h ∙ sym (and-true h) ∙ sym (and-true (h && true))
    shuffle true true true h false = and-false h ∙ sym (and-false (h && true))
    shuffle true true false h m = refl
    shuffle true false t h m = ap (λ b. b && m) (sym (and-false ((t && true) && h)))
    shuffle false l t h m = ap (λ b. (((b && h) && l) && m)) (sym (and-false t))

    within : (n : Primitive → Bool) (o : Option Primitive) (l m : Bool) (t h : Primitive → Bool)
        → (option_map_or n o false && (l && (option_map_or (λ q. t q && h q) o false && m))) ≡ ((option_map_or (λ q. t q && n q && h q) o false && l) && m)
    within n None l m t h = refl
    within n (Some q) l m t h = shuffle (n q) l (t q) (h q) m

    one : (k : ℕ) → (passes_at (λ q. refers (end_of (asked_end a.property) q) o) prims k && test k) ≡ ((passes_at (is_answer_link prims a.property o) prims k && is_live prims k) && answer_meets prims a meets_clause k)
    one k = ap (λ b. passes_at (λ q. refers (end_of (asked_end a.property) q) o) prims k && b) (same k)
        ∙ ap (λ b. b && is_link prims a meets_clause k) (passes_at-same (λ q. refers (end_of (asked_end a.property) q) o) (λ q. refers (near_of a.property q) o) prims k (λ q. ap (λ e. refers e o) (asked_end-near a.property q)))
        ∙ within (λ q. refers (near_of a.property q) o) (slice_get prims k) (is_live prims k) (answer_meets prims a meets_clause k) (is_of a.property) (λ q. holds_far prims (answers_of a.property) a.property q)
