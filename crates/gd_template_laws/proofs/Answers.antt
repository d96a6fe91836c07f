-- What answers the template of a query meets the query, and what passes it meets what is given.
use Rattle.std.proofs.Common.{◌≡◌, ℕ, List, [], ◌∷◌, ◌++◌, Bool, true, false, ◌&&◌, ◌||◌, not, refl, ap, sym, ◌∙◌}
use Rattle.std.specs.Prelude.{is_none}
use Rattle.std.specs.List.{list_any, list_all}
use Rattle.std.proofs.lemmas.Bool.{false≢true, and_parts}
use Rattle.std.proofs.lemmas.List.Folds.{list_all-append}
use Rattle.gd_base.specs.declared.datum.Datum.TheVariants as datum
use Rattle.gd_prim.specs.declared.Primitive.{Primitive}
use Rattle.gd_prim.specs.Live.{is_object, is_live, passes_at}
use Rattle.gd_defs.specs.Data.{Test, passes}
use Rattle.gd_defs.specs.Property.{Property, Expects, a_value, a_key, an_object_of_system, a_plain_object, expects_of, answers}
use Rattle.gd_defs.specs.Asked.{its_id, its_guid, its_timestamp, its_link, its_value, its_namespace, its_lang, Key, by_guid, by_timestamp, by_property, SortKey, Asking, Members, no_members, own, asks, Asked}
use Rattle.gd_defs.specs.Rows.{meets, meets_given, met, is_met, answer_meets, meets_mode}
use Rattle.gd_defs.specs.Plan.{object_test, object_tests, sort_clauses, unless_literal, asked_end, answers_of, link_template, clauses_of, template_of}
use Rattle.gd_defs.specs.Template as template
use Rattle.gd_defs.specs.Template.{template, Clauses, no_clauses, clause, links_by, end_here, led_to, holds, is_answer, meets_clauses, meets_constraints, clause_answers, passes_template, passes_clauses, is_literal, is_required, end_is}
use Rattle.gd_template_laws.specs.Fits.{IsTyped, AsksObjects, IsAsked, AreAsked}
use Rattle.gd_template_laws.proofs.Bools.{and-true, and-false, and-assoc}
use Rattle.gd_template_laws.proofs.Places.{any-same, object-live}
use Rattle.gd_template_laws.proofs.ObjectTests.{object_test-holds, moment_test-holds}
use Rattle.gd_template_laws.proofs.Shapes.{link_template-shaped, is_link, links-answers}
use Rattle.gd_template_laws.proofs.ValueLinks.{passes-anything}
use Rattle.gd_template_laws.proofs.Links.{value-answers, key-answers, object-links, is_link-linked, unless_literal-meets}
use Rattle.gd_template_laws.proofs.Literals.{member-literal}

-- ---- one member

-- where the clause of objects is met as its clauses are, the links of a member that answer its template are those that meet it
pub member-links : (prims : List Primitive) (a : Asking) (c : Members) (nested : Clauses) (X : Type 0) → IsTyped prims → IsAsked (answers_of a.property) a c X
    → (X → (x y : ℕ) → is_object prims y ≡ true → (list_all (λ c. holds prims c y) (object_tests c) && meets_clauses prims nested y) ≡ meets prims c x y)
    → (x : ℕ) → is_answer prims (link_template a c nested) x ≡ is_link prims a (meets prims c) x
member-links prims a c nested X typed asked inner x = by (answers_of a.property) refl asked
  where
    objects : AsksObjects a c X → (y : ℕ) → is_object prims y ≡ true → (list_all (λ c. holds prims c y) (object_tests c) && meets_clauses prims (unless_literal a.given nested) y) ≡ meets prims c x y
    objects asked y obj = ap (λ b. list_all (λ c. holds prims c y) (object_tests c) && b) (unless_literal-meets prims a.given nested y) ∙ inner asked.clause x y obj

    by : (e : Expects) → answers_of a.property ≡ e → IsAsked e a c X → is_answer prims (link_template a c nested) x ≡ is_link prims a (meets prims c) x
    by (a_value k) is asked = ap (λ t. is_answer prims t x) (link_template-shaped a c nested (a_value k) is) ∙ value-answers prims a c nested k x typed is asked.test asked.clause
    by a_key is asked = ap (λ t. is_answer prims t x) (link_template-shaped a c nested a_key is) ∙ key-answers prims a c nested x typed is asked.test asked.clause
    by an_object_of_system is asked = ap (λ t. is_answer prims t x) (link_template-shaped a c nested an_object_of_system is)
        ∙ object-links prims a c (meets_clauses prims (unless_literal a.given nested)) (λ k y. meets prims c x y) x asked.test (objects asked)
        ∙ is_link-linked prims a (meets prims c) x an_object_of_system is
    by a_plain_object is asked = ap (λ t. is_answer prims t x) (link_template-shaped a c nested a_plain_object is)
        ∙ object-links prims a c (meets_clauses prims (unless_literal a.given nested)) (λ k y. meets prims c x y) x asked.test (objects asked)
        ∙ is_link-linked prims a (meets prims c) x a_plain_object is

-- ---- sort keys ask nothing

sort-meets : (prims : List Primitive) (sort : List SortKey) (o : ℕ) → meets_clauses prims (sort_clauses sort) o ≡ true
sort-meets prims [] o = refl
sort-meets prims (s ∷ ss) o = by s.key refl ∙ sort-meets prims ss o
  where
    with_expected : (p : Property) → s.key ≡ by_property p → (e : Expects) → expects_of p.expected ≡ e → meets_clauses prims (sort_clauses (s ∷ ss)) o ≡ meets_clauses prims (sort_clauses ss) o
    with_expected p key (a_value k) is = rw (key, is) refl
    with_expected p key a_key is = rw (key, is) refl
    with_expected p key an_object_of_system is = rw (key, is) refl
    with_expected p key a_plain_object is = rw (key, is) refl

    by : (k : Key) → s.key ≡ k → meets_clauses prims (sort_clauses (s ∷ ss)) o ≡ meets_clauses prims (sort_clauses ss) o
    by by_guid key = rw key refl
    by by_timestamp key = rw key refl
    by (by_property p) key = with_expected p key (expects_of p.expected) refl

sort-passes : (prims : List Primitive) (sort : List SortKey) (o : ℕ) → passes_clauses prims (sort_clauses sort) o ≡ true
sort-passes prims [] o = refl
sort-passes prims (s ∷ ss) o = by s.key refl ∙ sort-passes prims ss o
  where
    with_expected : (p : Property) → s.key ≡ by_property p → (e : Expects) → expects_of p.expected ≡ e → passes_clauses prims (sort_clauses (s ∷ ss)) o ≡ passes_clauses prims (sort_clauses ss) o
    with_expected p key (a_value k) is = rw (key, is) refl
    with_expected p key a_key is = rw (key, is) refl
    with_expected p key an_object_of_system is = rw (key, is) refl
    with_expected p key a_plain_object is = rw (key, is) refl

    by : (k : Key) → s.key ≡ k → passes_clauses prims (sort_clauses (s ∷ ss)) o ≡ passes_clauses prims (sort_clauses ss) o
    by by_guid key = rw key refl
    by by_timestamp key = rw key refl
    by (by_property p) key = with_expected p key (expects_of p.expected) refl

-- ---- a clause

-- a computed member in front
one_own : (prims : List Primitive) (o : ℕ) (t : Test) (ms : Members) (d : Bool) (f : Bool) (m : Bool)
    → list_all (λ c. holds prims c o) (object_test t) ≡ d → (list_all (λ c. holds prims c o) (object_tests ms) && f) ≡ m
    → (list_all (λ c. holds prims c o) (object_test t ++ object_tests ms) && f) ≡ (d && m)
one_own prims o t ms d f m test rest = ap (λ b. b && f) (list_all-append (λ c. holds prims c o) (object_test t) (object_tests ms)) ∙ and-assoc _ _ f
    ∙ ap (λ b. b && (list_all (λ c. holds prims c o) (object_tests ms) && f)) test ∙ ap (λ b. d && b) rest

swap : (r x y f m : Bool) → x ≡ y → (r && f) ≡ m → (r && (x && f)) ≡ (y && m)
swap true x y f m is rest = ap (λ b. b && f) is ∙ ap (λ b. y && b) rest
swap false x true f m is rest = rest
swap false x false f m is rest = refl

no_typ : (prims : List Primitive) (o : ℕ) → is_object prims o ≡ true → passes_at (λ p. is_none p.typ) prims o ≡ true
no_typ prims o obj = (and_parts (is_live prims o) (passes_at (λ p. is_none p.typ) prims o) (sym (object-live prims o) ∙ obj)).1

-- the answers of a member's clause are those that meet it
found : (prims : List Primitive) (a : Asking) (c : Members) (nested : Clauses) (o : ℕ) → ((x : ℕ) → is_answer prims (link_template a c nested) x ≡ is_link prims a (meets prims c) x)
    → list_any (is_answer prims (link_template a c nested)) (led_to prims (links_by (asked_end a.property)) o) ≡ is_met prims a c o
found prims a c nested o same = any-same (is_answer prims (link_template a c nested)) (answer_meets prims a (meets prims c)) (led_to prims (links_by (asked_end a.property)) o) (answers prims a.property o) (links-answers prims a (meets prims c) (is_answer prims (link_template a c nested)) o same)

-- an object meets the template's constraints and clauses where it meets the clause
pub clause-meets : (prims : List Primitive) → IsTyped prims → (c : Members) → AreAsked c → (sort : List SortKey) (link o : ℕ) → is_object prims o ≡ true
    → (list_all (λ c. holds prims c o) (object_tests c) && meets_clauses prims (clauses_of sort c) o) ≡ meets prims c link o
clause-meets prims typed no_members are sort link o obj = sort-meets prims sort o
clause-meets prims typed (own name its_id t j ms) are sort link o obj =
    one_own prims o t ms (passes t (datum.Object o)) _ _ (object_test-holds prims o t are.0) (clause-meets prims typed ms are.1 sort link o obj)
clause-meets prims typed (own name its_guid t j ms) are sort link o obj =
    one_own prims o t ms (passes t (datum.Object o)) _ _ (object_test-holds prims o t are.0) (clause-meets prims typed ms are.1 sort link o obj)
clause-meets prims typed (own name its_timestamp t j ms) are sort link o obj =
    one_own prims o t ms _ _ _ (moment_test-holds prims o t (no_typ prims o obj) are.0) (clause-meets prims typed ms are.1 sort link o obj)
clause-meets prims typed (own name its_link t j ms) are sort link o obj =
    clause-meets prims typed ms are.1 sort link o obj ∙ ap (λ b. b && meets prims ms link o) (sym (passes-anything t (datum.Object link) are.0))
clause-meets prims typed (own name its_value t j ms) are sort link o obj = absurd are
clause-meets prims typed (own name its_namespace t j ms) are sort link o obj = absurd are
clause-meets prims typed (own name its_lang t j ms) are sort link o obj = absurd are
clause-meets prims typed (asks name a c ms) are sort link o obj =
    swap (list_all (λ c. holds prims c o) (object_tests ms)) _ (meets_mode a.mode (is_met prims a c o)) _ _
    (ap (meets_mode a.mode) (found prims a c (clauses_of a.sort c) o (member-links prims a c (clauses_of a.sort c) (AreAsked c) typed are.0 (λ asked x y here. clause-meets prims typed c asked a.sort x y here))))
    (clause-meets prims typed ms are.1 sort link o obj)

-- the links of a member that answer its template are those that meet it
pub member-answers : (prims : List Primitive) (a : Asking) (c : Members) → IsTyped prims → IsAsked (answers_of a.property) a c (AreAsked c) → (x : ℕ) → is_answer prims (link_template a c (clauses_of a.sort c)) x ≡ is_link prims a (meets prims c) x
member-answers prims a c typed asked = member-links prims a c (clauses_of a.sort c) (AreAsked c) typed asked (λ are x y here. clause-meets prims typed c are a.sort x y here)

-- the answers of a member's clause are the answers that meet the member, in order
pub member-met : (prims : List Primitive) (a : Asking) (c : Members) → IsTyped prims → IsAsked (answers_of a.property) a c (AreAsked c) → (o : ℕ)
    → clause_answers prims (links_by (asked_end a.property)) (link_template a c (clauses_of a.sort c)) o ≡ met prims a c o
member-met prims a c typed asked o = links-answers prims a (meets prims c) (is_answer prims (link_template a c (clauses_of a.sort c))) o (member-answers prims a c typed asked)

pub member-is_met : (prims : List Primitive) (a : Asking) (c : Members) → IsTyped prims → IsAsked (answers_of a.property) a c (AreAsked c) → (o : ℕ)
    → list_any (is_answer prims (link_template a c (clauses_of a.sort c))) (led_to prims (links_by (asked_end a.property)) o) ≡ is_met prims a c o
member-is_met prims a c typed asked o = found prims a c (clauses_of a.sort c) o (member-answers prims a c typed asked)

-- ---- what is given

given_clause : (r l g a m e : Bool) (f s p : Bool) → l ≡ g → a ≡ m → e ≡ false → (r && f) ≡ s → (r && (((not l || a) && (not e || p)) && f)) ≡ ((not g || m) && s)
given_clause r l g a m e f s p lit is hop rest = by e hop ∙ swap r (not l || a) (not g || m) f s (ap (λ b. not b || a) lit ∙ ap (λ b. not g || b) is) rest
  where
    by : (e : Bool) → e ≡ false → (r && (((not l || a) && (not e || p)) && f)) ≡ (r && ((not l || a) && f))
    by true hop = absurd (false≢true (sym hop))
    by false hop = ap (λ b. r && (b && f)) (and-true (not l || a))

-- an object meets the template's constraints and passes its clauses where it meets what the clause is given
pub clause-passes : (prims : List Primitive) → IsTyped prims → (c : Members) → AreAsked c → (sort : List SortKey) (link o : ℕ) → is_object prims o ≡ true
    → (list_all (λ c. holds prims c o) (object_tests c) && passes_clauses prims (clauses_of sort c) o) ≡ meets_given prims c link o
clause-passes prims typed no_members are sort link o obj = sort-passes prims sort o
clause-passes prims typed (own name its_id t j ms) are sort link o obj =
    one_own prims o t ms (passes t (datum.Object o)) _ _ (object_test-holds prims o t are.0) (clause-passes prims typed ms are.1 sort link o obj)
clause-passes prims typed (own name its_guid t j ms) are sort link o obj =
    one_own prims o t ms (passes t (datum.Object o)) _ _ (object_test-holds prims o t are.0) (clause-passes prims typed ms are.1 sort link o obj)
clause-passes prims typed (own name its_timestamp t j ms) are sort link o obj =
    one_own prims o t ms _ _ _ (moment_test-holds prims o t (no_typ prims o obj) are.0) (clause-passes prims typed ms are.1 sort link o obj)
clause-passes prims typed (own name its_link t j ms) are sort link o obj =
    clause-passes prims typed ms are.1 sort link o obj ∙ ap (λ b. b && meets_given prims ms link o) (sym (passes-anything t (datum.Object link) are.0))
clause-passes prims typed (own name its_value t j ms) are sort link o obj = absurd are
clause-passes prims typed (own name its_namespace t j ms) are sort link o obj = absurd are
clause-passes prims typed (own name its_lang t j ms) are sort link o obj = absurd are
clause-passes prims typed (asks name a c ms) are sort link o obj =
    given_clause (list_all (λ c. holds prims c o) (object_tests ms)) _ a.given _ (is_met prims a c o) (is_required a.mode && false) _ _ _
    (member-literal a c are.0) (member-is_met prims a c typed are.0 o) (and-false _) (clause-passes prims typed ms are.1 sort link o obj)

-- ---- the query

whole : (prims : List Primitive) (o : ℕ) (q : Asked) (f m : Bool) → (is_object prims o ≡ true → (list_all (λ c. holds prims c o) (object_tests q.members) && f) ≡ m)
    → (meets_constraints prims (template.is_object ∷ object_tests q.members) o && f) ≡ (is_object prims o && m)
whole prims o q f m same = apart (is_live prims o) (passes_at (λ p. is_none p.typ) prims o) _ f ∙ ap (λ b. b && (list_all (λ c. holds prims c o) (object_tests q.members) && f)) (sym (object-live prims o)) ∙ by (is_object prims o) refl
  where
    apart : (l n h k : Bool) → ((l && (n && h)) && k) ≡ ((l && n) && (h && k))
    apart true true h k = refl
    apart true false h k = refl
    apart false n h k = refl

    by : (b : Bool) → is_object prims o ≡ b → (is_object prims o && (list_all (λ c. holds prims c o) (object_tests q.members) && f)) ≡ (is_object prims o && m)
    by true obj = ap (λ b. is_object prims o && b) (same obj)
    by false obj = ap (λ b. b && (list_all (λ c. holds prims c o) (object_tests q.members) && f)) obj ∙ ap (λ b. b && m) (sym obj)

-- a place answers the template of a query where it is an object that meets the query
pub template-answers : (prims : List Primitive) (q : Asked) → IsTyped prims → AreAsked q.members → (o : ℕ) → is_answer prims (template_of q) o ≡ (is_object prims o && meets prims q.members 0 o)
template-answers prims q typed are o = whole prims o q (meets_clauses prims (clauses_of q.sort q.members) o) (meets prims q.members 0 o) (clause-meets prims typed q.members are q.sort 0 o)

-- a place passes the template of a query where it is an object that meets what is given
pub template-passes : (prims : List Primitive) (q : Asked) → IsTyped prims → AreAsked q.members → (o : ℕ) → passes_template prims (template_of q) o ≡ (is_object prims o && meets_given prims q.members 0 o)
template-passes prims q typed are o = whole prims o q (passes_clauses prims (clauses_of q.sort q.members) o) (meets_given prims q.members 0 o) (clause-passes prims typed q.members are q.sort 0 o)
