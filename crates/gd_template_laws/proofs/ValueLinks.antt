-- The links of a member whose answers are values or keys.
use Rattle.std.proofs.Common.{◌≡◌, ℕ, List, ◌++◌, Bool, true, false, ◌&&◌, Option, Some, None, refl, ap, sym, subst, ◌∙◌, arith}
use Rattle.std.specs.Prelude.{◌==◌, slice_get, is_none, option_and_then, if◌then◌else◌}
use Rattle.std.specs.Option.{option_map_or}
use Rattle.std.specs.List.{list_all}
use Rattle.std.proofs.lemmas.Bool.{false≢true}
use Rattle.std.proofs.lemmas.Bool.Decides.{nat_tests}
use Rattle.std.proofs.lemmas.List.Folds.{list_all-append}
use Rattle.gd_base.specs.Order.{datum_eq}
use Rattle.gd_base.specs.declared.datum.Datum.{Datum}
use Rattle.gd_base.specs.declared.datum.Datum.TheVariants as datum
use Rattle.gd_prim.specs.declared.Primitive.{Primitive}
use Rattle.gd_prim.specs.Live.{refers, passes_at, end_at, value_at, object_datum, language_of, language_at}
use Rattle.gd_tree.specs.Json.{Json}
use Rattle.gd_defs.specs.Data.{Kind, has_kind, Test, anything, equals, differs, is_one_of, is_below, is_above, matches_words, passes}
use Rattle.gd_defs.specs.Asked.{its_id, its_guid, its_timestamp, its_link, its_value, its_namespace, its_lang, Members, no_members, own, asks}
use Rattle.gd_defs.specs.Rows.{timestamp, meets}
use Rattle.gd_defs.specs.Plan.{value_test, lang_tests, link_tests, namespace_tests, object_test}
use Rattle.gd_defs.specs.Template.{holds, ordered_datum}
use Rattle.gd_template_laws.specs.Fits.{IsBounded, IsTyped, FitsKind, FitsOne, IsAnything, ValueMembers}
use Rattle.gd_template_laws.proofs.Bools.{and-true, and-assoc}
use Rattle.gd_template_laws.proofs.ValueTests.{value_test-holds}
use Rattle.gd_template_laws.proofs.ObjectTests.{object_test-holds, one-object}

-- ---- what is read of a link

-- a link is compared by its value, which is bounded
pub record Reads (prims : List Primitive) (x : ℕ) : Type 0 where
  pub ordered : ordered_datum prims x ≡ value_at prims x
  pub bounded : IsBounded (value_at prims x)

pub link-reads : (prims : List Primitive) (s x : ℕ) → IsTyped prims → passes_at (λ q. refers q.typ s) prims x ≡ true → Reads prims x
link-reads prims s x typed is = by (slice_get prims x) refl is
  where
    by : (o : Option Primitive) → slice_get prims x ≡ o → option_map_or (λ (q : Primitive). refers q.typ s) o false ≡ true → Reads prims x
    by None at is = absurd (false≢true is)
    by (Some q) at is = with_typ q.typ refl at is
      where
        with_typ : (t : Option ℕ) → q.typ ≡ t → slice_get prims x ≡ Some q → refers q.typ s ≡ true → Reads prims x
        with_typ None none at is = absurd (false≢true (ap (λ t. refers t s) (sym none) ∙ is))
        with_typ (Some t) some at is =
            let untyped : passes_at (λ p. is_none p.typ) prims x ≡ false = ap (λ o. option_map_or (λ (p : Primitive). is_none p.typ) o false) at ∙ ap is_none some in
            record {
              ordered = ap (λ b. if b then timestamp prims x else value_at prims x) untyped;
              bounded = subst (λ (o : Option Primitive). IsBounded (option_map_or (λ p. p.value) o datum.Empty)) (sym at) (typed.bounded x q t at some);
            }

-- ---- the members of a form on a value or a key

-- the tests of the namespace
abbrev pub namespace_passes : Datum → Members → Bool
namespace_passes d no_members = true
namespace_passes d (own name its_namespace t j ms) = passes t d && namespace_passes d ms
namespace_passes d (own name w t j ms) = namespace_passes d ms
namespace_passes d (asks name a c ms) = namespace_passes d ms

-- the tests of one more `value`
link_tests-value : (prims : List Primitive) (x : ℕ) (k : Kind) (name : List ℕ) (t : Test) (j : Option Json) (ms : Members) → Reads prims x → has_kind k (value_at prims x) ≡ true → FitsKind k t
    → list_all (λ c. holds prims c x) (link_tests k (own name its_value t j ms)) ≡ (passes t (value_at prims x) && list_all (λ c. holds prims c x) (link_tests k ms))
link_tests-value prims x k name t j ms reads of fits = by t fits
  where
    more : (t : Test) → FitsKind k t → list_all (λ c. holds prims c x) (value_test k t ++ link_tests k ms) ≡ (passes t (value_at prims x) && list_all (λ c. holds prims c x) (link_tests k ms))
    more t fits = list_all-append (λ c. holds prims c x) (value_test k t) (link_tests k ms)
        ∙ ap (λ b. b && list_all (λ c. holds prims c x) (link_tests k ms)) (value_test-holds prims x (value_at prims x) k t refl reads.ordered reads.bounded fits
        ∙ ap (λ b. b && passes t (value_at prims x)) of)

    by : (t : Test) → FitsKind k t → list_all (λ c. holds prims c x) (link_tests k (own name its_value t j ms)) ≡ (passes t (value_at prims x) && list_all (λ c. holds prims c x) (link_tests k ms))
    by anything fits = refl
    by (equals v) fits = more (equals v) fits
    by (differs v) fits = more (differs v) fits
    by (is_one_of vs) fits = more (is_one_of vs) fits
    by (is_below v e) fits = more (is_below v e) fits
    by (is_above v e) fits = more (is_above v e) fits
    by (matches_words p) fits = more (matches_words p) fits

-- a test that asks nothing passes
pub passes-anything : (t : Test) (d : Datum) → IsAnything t → passes t d ≡ true
passes-anything anything d is = refl
passes-anything (equals v) d is = absurd is
passes-anything (differs v) d is = absurd is
passes-anything (is_one_of vs) d is = absurd is
passes-anything (is_below v e) d is = absurd is
passes-anything (is_above v e) d is = absurd is
passes-anything (matches_words p) d is = absurd is

-- the constraints of a test of its language
lang_tests-hold : (prims : List Primitive) (x : ℕ) (t : Test) → FitsOne t → list_all (λ c. holds prims c x) (lang_tests t) ≡ passes t (object_datum (language_at prims x))
lang_tests-hold prims x anything fits = refl
lang_tests-hold prims x (equals (datum.Object l)) fits = by (slice_get prims x)
  where
    same : (m : Option ℕ) → (refers m l && true) ≡ datum_eq (object_datum m) (datum.Object l)
    same None = refl
    same (Some m) = and-true (m == l) ∙ flip m
      where
        flip : (m : ℕ) → (m == l) ≡ datum_eq (datum.Object m) (datum.Object l)
        flip m = grind (arith, nat_tests)

    by : (o : Option Primitive) → (option_map_or (λ (p : Primitive). refers (language_of p) l) o false && true) ≡ datum_eq (object_datum (option_and_then language_of o)) (datum.Object l)
    by None = refl
    by (Some p) = same (language_of p)
lang_tests-hold prims x (equals (datum.Bool b)) fits = absurd fits
lang_tests-hold prims x (equals (datum.Int n)) fits = absurd fits
lang_tests-hold prims x (equals (datum.Moment ms precision)) fits = absurd fits
lang_tests-hold prims x (equals (datum.Text t)) fits = absurd fits
lang_tests-hold prims x (equals datum.Empty) fits = absurd fits
lang_tests-hold prims x (differs v) fits = absurd fits
lang_tests-hold prims x (is_one_of vs) fits = absurd fits
lang_tests-hold prims x (is_below v e) fits = absurd fits
lang_tests-hold prims x (is_above v e) fits = absurd fits
lang_tests-hold prims x (matches_words p) fits = absurd fits

-- a link meets the members where its value, its language and its namespace pass
pub meets-value : (prims : List Primitive) (x y : ℕ) (k : Kind) (keys : Bool) (c : Members) → Reads prims x → has_kind k (value_at prims x) ≡ true → ValueMembers k keys c
    → (list_all (λ c. holds prims c x) (link_tests k c) && namespace_passes (object_datum (end_at (λ p. p.right) prims x)) c) ≡ meets prims c x y
meets-value prims x y k keys no_members reads of are = refl
meets-value prims x y k keys (own name its_link t j ms) reads of are =
    meets-value prims x y k keys ms reads of are.1 ∙ ap (λ b. b && meets prims ms x y) (sym (passes-anything t (datum.Object x) are.0))
meets-value prims x y k keys (own name its_value t j ms) reads of are =
    let d = object_datum (end_at (λ p. p.right) prims x) in
    ap (λ b. b && namespace_passes d ms) (link_tests-value prims x k name t j ms reads of are.0)
    ∙ and-assoc (passes t (value_at prims x)) _ (namespace_passes d ms)
    ∙ ap (λ b. passes t (value_at prims x) && b) (meets-value prims x y k keys ms reads of are.1)
meets-value prims x y k keys (own name its_namespace t j ms) reads of are =
    let d = object_datum (end_at (λ p. p.right) prims x) in
    swap (list_all (λ c. holds prims c x) (link_tests k ms)) (passes t d) (namespace_passes d ms) ∙ ap (λ b. passes t d && b) (meets-value prims x y k keys ms reads of are.2)
  where
    swap : (a b c : Bool) → (a && (b && c)) ≡ (b && (a && c))
    swap true b c = refl
    swap false true c = refl
    swap false false c = refl
meets-value prims x y k keys (own name its_lang t j ms) reads of are =
    let d = object_datum (end_at (λ p. p.right) prims x) in
    ap (λ b. b && namespace_passes d ms) (list_all-append (λ c. holds prims c x) (lang_tests t) (link_tests k ms) ∙ ap (λ b. b && list_all (λ c. holds prims c x) (link_tests k ms)) (lang_tests-hold prims x t are.0))
    ∙ and-assoc (passes t (object_datum (language_at prims x))) _ (namespace_passes d ms)
    ∙ ap (λ b. passes t (object_datum (language_at prims x)) && b) (meets-value prims x y k keys ms reads of are.1)
meets-value prims x y k keys (own name its_id t j ms) reads of are = absurd are
meets-value prims x y k keys (own name its_guid t j ms) reads of are = absurd are
meets-value prims x y k keys (own name its_timestamp t j ms) reads of are = absurd are
meets-value prims x y k keys (asks name a c ms) reads of are = absurd are

-- a value has no namespace
pub namespace-value : (k : Kind) (d : Datum) (c : Members) → ValueMembers k false c → namespace_passes d c ≡ true
namespace-value k d no_members are = refl
namespace-value k d (own name its_link t j ms) are = namespace-value k d ms are.1
namespace-value k d (own name its_value t j ms) are = namespace-value k d ms are.1
namespace-value k d (own name its_namespace t j ms) are = absurd (false≢true are.0)
namespace-value k d (own name its_lang t j ms) are = namespace-value k d ms are.1
namespace-value k d (own name its_id t j ms) are = absurd are
namespace-value k d (own name its_guid t j ms) are = absurd are
namespace-value k d (own name its_timestamp t j ms) are = absurd are
namespace-value k d (asks name a c ms) are = absurd are

-- the constraints of the namespace, at the object that it is
pub namespace-holds : (prims : List Primitive) (y : ℕ) (k : Kind) (keys : Bool) (c : Members) → ValueMembers k keys c → list_all (λ c. holds prims c y) (namespace_tests c) ≡ namespace_passes (datum.Object y) c
namespace-holds prims y k keys no_members are = refl
namespace-holds prims y k keys (own name its_link t j ms) are = namespace-holds prims y k keys ms are.1
namespace-holds prims y k keys (own name its_value t j ms) are = namespace-holds prims y k keys ms are.1
namespace-holds prims y k keys (own name its_namespace t j ms) are =
    list_all-append (λ c. holds prims c y) (object_test t) (namespace_tests ms)
    ∙ ap (λ b. b && list_all (λ c. holds prims c y) (namespace_tests ms)) (object_test-holds prims y t (one-object t are.1))
    ∙ ap (λ b. passes t (datum.Object y) && b) (namespace-holds prims y k keys ms are.2)
namespace-holds prims y k keys (own name its_lang t j ms) are = namespace-holds prims y k keys ms are.1
namespace-holds prims y k keys (own name its_id t j ms) are = absurd are
namespace-holds prims y k keys (own name its_guid t j ms) are = absurd are
namespace-holds prims y k keys (own name its_timestamp t j ms) are = absurd are
namespace-holds prims y k keys (asks name a c ms) are = absurd are
