-- The constraints of a test of an object say what the test says.
use Rattle.std.proofs.Common.{◌≡◌, ℕ, List, [], ◌∷◌, Bool, true, false, not, ◌||◌, refl, ap, ◌∙◌, arith}
use Rattle.std.specs.Prelude.{◌==◌, is_none}
use Rattle.std.specs.List.{list_any, list_all}
use Rattle.std.proofs.lemmas.Bool.Decides.{nat_tests}
use Rattle.gd_base.specs.Order.{datum_eq}
use Rattle.gd_base.specs.declared.datum.Datum.{Datum}
use Rattle.gd_base.specs.declared.datum.Datum.TheVariants as datum
use Rattle.gd_prim.specs.declared.Primitive.{Primitive}
use Rattle.gd_prim.specs.Live.{passes_at}
use Rattle.gd_defs.specs.Data.{Test, anything, equals, differs, is_one_of, is_below, is_above, matches_words, passes}
use Rattle.gd_defs.specs.Rows.{timestamp}
use Rattle.gd_defs.specs.Plan.{object_test, places_of}
use Rattle.gd_defs.specs.Template.{holds, ordered_datum}
use Rattle.gd_template_laws.specs.Fits.{AreObjects, FitsObject, FitsOne, FitsMoment}
use Rattle.gd_template_laws.proofs.Bools.{and-true}

pub same_object : (x o : ℕ) → (o == x) ≡ datum_eq (datum.Object x) (datum.Object o)
same_object x o = grind (arith, nat_tests)

pub one_of : (x : ℕ) (vs : List Datum) → AreObjects vs → list_any (λ o. o == x) (places_of vs) ≡ list_any (datum_eq (datum.Object x)) vs
one_of x [] are = refl
one_of x (datum.Object o ∷ vs) are = ap (λ b. b || list_any (λ o. o == x) (places_of vs)) (same_object x o) ∙ ap (λ b. datum_eq (datum.Object x) (datum.Object o) || b) (one_of x vs are.1)
one_of x (datum.Bool b ∷ vs) are = absurd are.0
one_of x (datum.Int n ∷ vs) are = absurd are.0
one_of x (datum.Moment ms precision ∷ vs) are = absurd are.0
one_of x (datum.Text t ∷ vs) are = absurd are.0
one_of x (datum.Empty ∷ vs) are = absurd are.0

-- a test of which object it is
pub object_test-holds : (prims : List Primitive) (x : ℕ) (t : Test) → FitsObject t → list_all (λ c. holds prims c x) (object_test t) ≡ passes t (datum.Object x)
object_test-holds prims x anything fits = refl
object_test-holds prims x (equals v) fits = and-true (list_any (λ o. o == x) (places_of (v ∷ []))) ∙ (one_of x (v ∷ []) (fits, tt) ∙ or-false (datum_eq (datum.Object x) v))
  where
    or-false : (a : Bool) → (a || false) ≡ a
    or-false true = refl
    or-false false = refl
object_test-holds prims x (differs (datum.Object o)) fits = and-true (not (o == x)) ∙ ap not (same_object x o)
object_test-holds prims x (differs (datum.Bool b)) fits = absurd fits
object_test-holds prims x (differs (datum.Int n)) fits = absurd fits
object_test-holds prims x (differs (datum.Moment ms precision)) fits = absurd fits
object_test-holds prims x (differs (datum.Text t)) fits = absurd fits
object_test-holds prims x (differs datum.Empty) fits = absurd fits
object_test-holds prims x (is_one_of vs) fits = and-true (list_any (λ o. o == x) (places_of vs)) ∙ one_of x vs fits
object_test-holds prims x (is_below v e) fits = absurd fits
object_test-holds prims x (is_above v e) fits = absurd fits
object_test-holds prims x (matches_words p) fits = absurd fits

-- a test of its timestamp
pub moment_test-holds : (prims : List Primitive) (x : ℕ) (t : Test) → passes_at (λ p. is_none p.typ) prims x ≡ true → FitsMoment t → list_all (λ c. holds prims c x) (object_test t) ≡ passes t (timestamp prims x)
moment_test-holds prims x t is fits = by t (timestamp-ordered is) fits
  where
    timestamp-ordered : passes_at (λ p. is_none p.typ) prims x ≡ true → ordered_datum prims x ≡ timestamp prims x
    timestamp-ordered is = rw is refl

    by : (t : Test) → ordered_datum prims x ≡ timestamp prims x → FitsMoment t → list_all (λ c. holds prims c x) (object_test t) ≡ passes t (timestamp prims x)
    by anything read fits = refl
    by (is_below v e) read fits = and-true (passes (is_below v e) (ordered_datum prims x)) ∙ ap (passes (is_below v e)) read
    by (is_above v e) read fits = and-true (passes (is_above v e) (ordered_datum prims x)) ∙ ap (passes (is_above v e)) read
    by (equals v) read fits = absurd fits
    by (differs v) read fits = absurd fits
    by (is_one_of vs) read fits = absurd fits
    by (matches_words p) read fits = absurd fits

-- a test of one object is a test of which object it is
pub one-object : (t : Test) → FitsOne t → FitsObject t
one-object anything fits = tt
one-object (equals v) fits = fits
one-object (differs v) fits = absurd fits
one-object (is_one_of vs) fits = absurd fits
one-object (is_below v e) fits = absurd fits
one-object (is_above v e) fits = absurd fits
one-object (matches_words p) fits = absurd fits
