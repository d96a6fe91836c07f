-- The links that answer the template of a member are its answers that meet it; and those that pass it.
use Rattle.std.proofs.Common.{◌≡◌, ℕ, List, ◌∷◌, ◌++◌, Bool, true, false, ◌&&◌, ◌||◌, Option, Some, None, refl, ap, sym, ◌∙◌}
use Rattle.std.specs.Prelude.{slice_get, is_none, unwrap_or, if◌then◌else◌}
use Rattle.std.specs.Option.{option_map_or, option_to_list}
use Rattle.std.specs.List.{list_any, list_all}
use Rattle.std.proofs.lemmas.List.Folds.{list_all-append}
use Rattle.gd_base.specs.declared.datum.Datum.{Datum}
use Rattle.gd_base.specs.declared.datum.Datum.TheVariants as datum
use Rattle.gd_prim.specs.declared.Primitive.{Primitive}
use Rattle.gd_prim.specs.Live.{refers, passes_at, is_live, is_object, end_at, value_at, object_datum}
use Rattle.gd_defs.specs.Data.{Kind, of_text, of_int, of_boolean, of_datetime, has_kind, Test, passes}
use Rattle.gd_defs.specs.Property.{is_of, Property, Expects, a_value, a_key, an_object_of_system, a_plain_object, expects_of, far_of, far_end, leads_to_object}
use Rattle.gd_defs.specs.Asked.{Asking, Members}
use Rattle.gd_defs.specs.Rows.{meets, far}
use Rattle.gd_defs.specs.Plan.{property_tests, value_test, link_tests, namespace_tests, object_test, object_tests, unless_literal, answers_of, answer_end}
use Rattle.gd_prim.specs.End.{end_of}
use Rattle.gd_defs.specs.Template.{end_is, holds, Constraint, meets_constraints, is_answer, meets_clauses, Clauses, no_clauses, clause, template, end_here, led_to, passes_template, passes_clauses}
use Rattle.gd_defs.specs.Template as template
use Rattle.gd_template_laws.specs.Fits.{IsTyped, FitsKind, FitsObject, ValueMembers}
use Rattle.gd_template_laws.proofs.Bools.{and-true, and-false, and-assoc}
use Rattle.gd_template_laws.proofs.Places.{passes_at-and, object-live}
use Rattle.gd_template_laws.proofs.ValueTests.{value_test-holds}
use Rattle.gd_template_laws.proofs.ObjectTests.{object_test-holds}
use Rattle.gd_template_laws.proofs.Shapes.{property_tests-hold, property_tests-alone, of-typ, far_clause, shaped, holds_far, answer_end-at, is_link}
use Rattle.gd_template_laws.proofs.ValueLinks.{link-reads, meets-value, namespace-value, namespace-holds, namespace_passes}

-- ---- a link by what the answers are

-- an answer as a datum, by what the answers are
abbrev pub datum_at : Expects → List Primitive → Property → ℕ → Datum
datum_at (a_value k) prims p x = value_at prims x
datum_at a_key prims p x = value_at prims x
datum_at an_object_of_system prims p x = object_datum (far_end prims p x)
datum_at a_plain_object prims p x = object_datum (far_end prims p x)

abbrev pub linked : Expects → List Primitive → Asking → (ℕ → ℕ → Bool) → ℕ → Bool
linked e prims a m x = is_live prims x && ((passes_at (is_of a.property) prims x && passes_at (holds_far prims e a.property) prims x)
    && (passes a.test (datum_at e prims a.property x) && m x (far prims a.property x)))

pub is_link-linked : (prims : List Primitive) (a : Asking) (m : ℕ → ℕ → Bool) (x : ℕ) (e : Expects) → answers_of a.property ≡ e → linked e prims a m x ≡ is_link prims a m x
is_link-linked prims a m x e is = ap (λ b. is_live prims x && (b && (passes a.test (datum_at e prims a.property x) && m x (far prims a.property x)))) (sym (passes_at-and (is_of a.property) (holds_far prims e a.property) prims x)) ∙ by e is
  where
    by : (e : Expects) → answers_of a.property ≡ e
        → (is_live prims x && (passes_at (λ q. is_of a.property q && holds_far prims e a.property q) prims x && (passes a.test (datum_at e prims a.property x) && m x (far prims a.property x)))) ≡ is_link prims a m x
    by (a_value k) is = rw is refl
    by a_key is = rw is refl
    by an_object_of_system is = rw is refl
    by a_plain_object is = rw is refl

-- ---- the object at the other end

-- the object at the other end is one, and passes
abbrev pub at_far : List Primitive → List Constraint → (ℕ → Bool) → Option ℕ → Bool
at_far prims cs g end = list_any (λ y. meets_constraints prims (template.is_object ∷ cs) y && g y) (option_to_list end)

pub at_far-is : (prims : List Primitive) (cs : List Constraint) (g : ℕ → Bool) (end : Option ℕ) (m : Bool) → ((y : ℕ) → end ≡ Some y → is_object prims y ≡ true → (list_all (λ c. holds prims c y) cs && g y) ≡ m)
    → at_far prims cs g end ≡ (leads_to_object prims end && m)
at_far-is prims cs g None m same = refl
at_far-is prims cs g (Some y) m same = or-false _ ∙ by (is_object prims y) refl
  where
    or-false : (a : Bool) → (a || false) ≡ a
    or-false true = refl
    or-false false = refl

    apart : (l n h k : Bool) → ((l && (n && h)) && k) ≡ ((l && n) && (h && k))
    apart true true h k = refl
    apart true false h k = refl
    apart false n h k = refl

    by : (b : Bool) → is_object prims y ≡ b → (meets_constraints prims (template.is_object ∷ cs) y && g y) ≡ (is_object prims y && m)
    by b is = apart (is_live prims y) (passes_at (λ p. is_none p.typ) prims y) (list_all (λ c. holds prims c y) cs) (g y)
        ∙ ap (λ b. b && (list_all (λ c. holds prims c y) cs && g y)) (sym (object-live prims y))
        ∙ cases b is
      where
        cases : (b : Bool) → is_object prims y ≡ b → (is_object prims y && (list_all (λ c. holds prims c y) cs && g y)) ≡ (is_object prims y && m)
        cases true is = ap (λ b. is_object prims y && b) (same y refl is)
        cases false is = ap (λ b. b && (list_all (λ c. holds prims c y) cs && g y)) is ∙ ap (λ b. b && m) (sym is)

passes-far : (prims : List Primitive) (p : Property) (x : ℕ) → passes_at (λ q. leads_to_object prims (far_of p q)) prims x ≡ leads_to_object prims (far_end prims p x)
passes-far prims p x = by (slice_get prims x)
  where
    by : (o : Option Primitive) → option_map_or (λ q. leads_to_object prims (far_of p q)) o false ≡ leads_to_object prims (Rattle.std.specs.Prelude.option_and_then (far_of p) o)
    by None = refl
    by (Some q) = refl

passes-kind : (prims : List Primitive) (k : Kind) (x : ℕ) → passes_at (λ q. has_kind k q.value) prims x ≡ has_kind k (value_at prims x)
passes-kind prims k x = by k (slice_get prims x)
  where
    by : (k : Kind) (o : Option Primitive) → option_map_or (λ (q : Primitive). has_kind k q.value) o false ≡ has_kind k (option_map_or (λ (q : Primitive). q.value) o datum.Empty)
    by k (Some q) = refl
    by of_text None = refl
    by of_int None = refl
    by of_boolean None = refl
    by of_datetime None = refl

-- clauses that keep a template from being literal ask nothing
pub unless_literal-meets : (prims : List Primitive) (given : Bool) (rest : Clauses) (x : ℕ) → meets_clauses prims (unless_literal given rest) x ≡ meets_clauses prims rest x
unless_literal-meets prims true rest x = refl
unless_literal-meets prims false rest x = refl

pub unless_literal-passes : (prims : List Primitive) (given : Bool) (rest : Clauses) (x : ℕ) → passes_clauses prims (unless_literal given rest) x ≡ passes_clauses prims rest x
unless_literal-passes prims true rest x = refl
unless_literal-passes prims false rest x = refl

-- ---- values

value_shuffle : (l t v k p m : Bool) → (t ≡ true → v ≡ (k && (p && m))) → (l && (t && v)) ≡ (l && ((t && k) && (p && m)))
value_shuffle false t v k p m is = refl
value_shuffle true false v k p m is = refl
value_shuffle true true v k p m is = is refl ∙ sym (and-assoc k p m ∙ refl) ∙ and-assoc k p m

-- the constraints on a value: its kind, its test, and those of the members
value-constraints : (prims : List Primitive) (x : ℕ) (k : Kind) (t : Test) (c : Members) → IsTyped prims → (s : ℕ) → passes_at (λ q. refers q.typ s) prims x ≡ true → FitsKind k t
    → list_all (λ c. holds prims c x) (value_test k t ++ link_tests k c) ≡ (has_kind k (value_at prims x) && (passes t (value_at prims x) && list_all (λ c. holds prims c x) (link_tests k c)))
value-constraints prims x k t c typed s is fits =
    let reads = link-reads prims s x typed is in
    list_all-append (λ c. holds prims c x) (value_test k t) (link_tests k c)
    ∙ ap (λ b. b && list_all (λ c. holds prims c x) (link_tests k c)) (value_test-holds prims x (value_at prims x) k t refl reads.ordered reads.bounded fits)
    ∙ and-assoc (has_kind k (value_at prims x)) (passes t (value_at prims x)) _

pub value-answers : (prims : List Primitive) (a : Asking) (c : Members) (nested : Clauses) (k : Kind) (x : ℕ) → IsTyped prims → answers_of a.property ≡ a_value k → FitsKind k a.test → ValueMembers k false c
    → is_answer prims (shaped (a_value k) a c nested) x ≡ is_link prims a (meets prims c) x
value-answers prims a c nested k x typed is fits are =
    ap (λ b. meets_constraints prims (property_tests a.property ++ (value_test k a.test ++ link_tests k c)) x && b) (unless_literal-meets prims a.given no_clauses x)
    ∙ and-true _
    ∙ ap (λ b. is_live prims x && b) (property_tests-hold prims x a.property (value_test k a.test ++ link_tests k c))
    ∙ value_shuffle (is_live prims x) (passes_at (is_of a.property) prims x) _ (has_kind k (value_at prims x)) (passes a.test (value_at prims x)) (meets prims c x (far prims a.property x)) tests
    ∙ ap (λ b. is_live prims x && ((passes_at (is_of a.property) prims x && b) && (passes a.test (value_at prims x) && meets prims c x (far prims a.property x)))) (sym (passes-kind prims k x))
    ∙ is_link-linked prims a (meets prims c) x (a_value k) is
  where
    tests : passes_at (is_of a.property) prims x ≡ true
        → list_all (λ c. holds prims c x) (value_test k a.test ++ link_tests k c) ≡ (has_kind k (value_at prims x) && (passes a.test (value_at prims x) && meets prims c x (far prims a.property x)))
    tests here = value-constraints prims x k a.test c typed a.property.stored (of-typ prims x a.property here) fits ∙ of (has_kind k (value_at prims x)) refl
      where
        of : (b : Bool) → has_kind k (value_at prims x) ≡ b
            → (has_kind k (value_at prims x) && (passes a.test (value_at prims x) && list_all (λ c. holds prims c x) (link_tests k c))) ≡ (has_kind k (value_at prims x) && (passes a.test (value_at prims x) && meets prims c x (far prims a.property x)))
        of true kind = ap (λ b. has_kind k (value_at prims x) && (passes a.test (value_at prims x) && b))
            (sym (and-true _) ∙ ap (λ b. list_all (λ c. holds prims c x) (link_tests k c) && b) (sym (namespace-value k (object_datum (end_at (λ p. p.right) prims x)) c are))
            ∙ meets-value prims x (far prims a.property x) k false c (link-reads prims a.property.stored x typed (of-typ prims x a.property here)) kind are)
        of false kind = ap (λ b. b && (passes a.test (value_at prims x) && list_all (λ c. holds prims c x) (link_tests k c))) kind
            ∙ ap (λ b. b && (passes a.test (value_at prims x) && meets prims c x (far prims a.property x))) (sym kind)

-- ---- keys

key_shuffle : (l t v f k p n w m e : Bool) → (t ≡ true → v ≡ (k && (p && n))) → f ≡ (e && w) → (t ≡ true → k ≡ true → (n && w) ≡ m) → ((l && (t && v)) && f) ≡ (l && ((t && (e && k)) && (p && m)))
key_shuffle false t v f k p n w m e is far meet = refl
key_shuffle true false v f k p n w m e is far meet = refl
key_shuffle true true v f false p n w m e is far meet = ap (λ b. b && f) (is refl) ∙ ap (λ b. b && (p && m)) (sym (and-false e))
key_shuffle true true v f true p n w m false is far meet = ap (λ b. v && b) far ∙ and-false v
key_shuffle true true v f true p n w m true is far meet = ap (λ b. b && f) (is refl) ∙ ap (λ b. (p && n) && b) far ∙ and-assoc p n w ∙ ap (λ b. p && b) (meet refl refl)

forward : (p : Property) → answers_of p ≡ a_key → p.reversed ≡ false
forward p is = by p.reversed refl is
  where
    by : (b : Bool) → p.reversed ≡ b → (if b then a_plain_object else expects_of p.expected) ≡ a_key → p.reversed ≡ false
    by true turned is = absurd (cc)
    by false turned is = turned

forward-far : (prims : List Primitive) (p : Property) (x : ℕ) → p.reversed ≡ false → far_end prims p x ≡ end_at (λ q. q.right) prims x
forward-far prims p x is = rw is refl

pub key-answers : (prims : List Primitive) (a : Asking) (c : Members) (nested : Clauses) (x : ℕ) → IsTyped prims → answers_of a.property ≡ a_key → FitsKind of_text a.test → ValueMembers of_text true c
    → is_answer prims (shaped a_key a c nested) x ≡ is_link prims a (meets prims c) x
key-answers prims a c nested x typed is fits are =
    ap (λ b. meets_constraints prims (property_tests a.property ++ (value_test of_text a.test ++ link_tests of_text c)) x && b)
    (unless_literal-meets prims a.given (far_clause a.property (namespace_tests c) no_clauses) x ∙ and-true _)
    ∙ ap (λ b. (is_live prims x && b) && at_far prims (namespace_tests c) (λ y. true) (end_at (end_of (answer_end a.property)) prims x)) (property_tests-hold prims x a.property (value_test of_text a.test ++ link_tests of_text c))
    ∙ key_shuffle (is_live prims x) (passes_at (is_of a.property) prims x) _ _ (has_kind of_text (value_at prims x)) (passes a.test (value_at prims x))
    (list_all (λ c. holds prims c x) (link_tests of_text c)) (namespace_passes d c) (meets prims c x (far prims a.property x)) (leads_to_object prims (far_end prims a.property x))
    (λ here. value-constraints prims x of_text a.test c typed a.property.stored (of-typ prims x a.property here) fits)
    at_end
    (λ here kind. meets-value prims x (far prims a.property x) of_text true c (link-reads prims a.property.stored x typed (of-typ prims x a.property here)) kind are)
    ∙ ap (λ b. is_live prims x && ((passes_at (is_of a.property) prims x && b) && (passes a.test (value_at prims x) && meets prims c x (far prims a.property x)))) (sym held)
    ∙ is_link-linked prims a (meets prims c) x a_key is
  where
    d : Datum
    d = object_datum (end_at (λ p. p.right) prims x)

    held : passes_at (holds_far prims a_key a.property) prims x ≡ (leads_to_object prims (far_end prims a.property x) && has_kind of_text (value_at prims x))
    held = passes_at-and (λ q. leads_to_object prims (far_of a.property q)) (λ q. has_kind of_text q.value) prims x
        ∙ ap (λ b. b && passes_at (λ q. has_kind of_text q.value) prims x) (passes-far prims a.property x)
        ∙ ap (λ b. leads_to_object prims (far_end prims a.property x) && b) (passes-kind prims of_text x)

    at_end : at_far prims (namespace_tests c) (λ y. true) (end_at (end_of (answer_end a.property)) prims x) ≡ (leads_to_object prims (far_end prims a.property x) && namespace_passes d c)
    at_end = ap (at_far prims (namespace_tests c) (λ y. true)) (answer_end-at prims a.property x)
        ∙ at_far-is prims (namespace_tests c) (λ y. true) (far_end prims a.property x) (namespace_passes d c)
        (λ y end obj. and-true _ ∙ namespace-holds prims y of_text true c are ∙ ap (λ e. namespace_passes (object_datum e) c) (sym end ∙ forward-far prims a.property x (forward a.property is)))

-- ---- objects

object_shuffle : (l t f e m : Bool) → f ≡ (e && m) → ((l && (t && true)) && (f && true)) ≡ (l && ((t && e) && m))
object_shuffle false t f e m is = refl
object_shuffle true false f e m is = refl
object_shuffle true true f e m is = and-true f ∙ is

-- a link whose other end is an object that passes what is asked of it
pub object-links : (prims : List Primitive) (a : Asking) (c : Members) (g : ℕ → Bool) (m : ℕ → ℕ → Bool) (x : ℕ) → FitsObject a.test
    → ((y : ℕ) → is_object prims y ≡ true → (list_all (λ c. holds prims c y) (object_tests c) && g y) ≡ m x y)
    → (meets_constraints prims (property_tests a.property) x && (at_far prims (object_test a.test ++ object_tests c) g (end_at (end_of (answer_end a.property)) prims x) && true)) ≡ linked a_plain_object prims a m x
object-links prims a c g m x fits inner =
    ap (λ b. (is_live prims x && b) && (at_far prims (object_test a.test ++ object_tests c) g (end_at (end_of (answer_end a.property)) prims x) && true)) (property_tests-alone prims x a.property)
    ∙ object_shuffle (is_live prims x) (passes_at (is_of a.property) prims x) _ (leads_to_object prims (far_end prims a.property x)) (passes a.test (object_datum (far_end prims a.property x)) && m x (far prims a.property x)) at_end
    ∙ ap (λ b. is_live prims x && ((passes_at (is_of a.property) prims x && b) && (passes a.test (object_datum (far_end prims a.property x)) && m x (far prims a.property x)))) (sym (passes-far prims a.property x))
  where
    one : (y : ℕ) → far_end prims a.property x ≡ Some y → is_object prims y ≡ true
        → (list_all (λ c. holds prims c y) (object_test a.test ++ object_tests c) && g y) ≡ (passes a.test (object_datum (far_end prims a.property x)) && m x (far prims a.property x))
    one y end obj = ap (λ b. b && g y) (list_all-append (λ c. holds prims c y) (object_test a.test) (object_tests c)) ∙ and-assoc _ _ (g y)
        ∙ ap (λ b. b && (list_all (λ c. holds prims c y) (object_tests c) && g y)) (object_test-holds prims y a.test fits)
        ∙ ap (λ b. passes a.test (datum.Object y) && b) (inner y obj)
        ∙ ap (λ e. passes a.test (object_datum e) && m x (unwrap_or e 0)) (sym end)

    at_end : at_far prims (object_test a.test ++ object_tests c) g (end_at (end_of (answer_end a.property)) prims x) ≡ (leads_to_object prims (far_end prims a.property x) && (passes a.test (object_datum (far_end prims a.property x)) && m x (far prims a.property x)))
    at_end = ap (at_far prims (object_test a.test ++ object_tests c) g) (answer_end-at prims a.property x)
        ∙ at_far-is prims (object_test a.test ++ object_tests c) g (far_end prims a.property x) _ one
