-- A value of a kind is one that is not below the least of the kind; the constraints of a test say what the test says, and the kind.
use Rattle.std.proofs.Common.{◌≡◌, ℕ, List, [], ◌∷◌, Bool, true, false, ◌&&◌, ◌||◌, not, refl, ap, sym, ◌∙◌, arith, inl, inr}
use Rattle.std.specs.Prelude.{negsuc, ℤ, int_le, nat_eq, ◌==◌}
use Rattle.std.specs.List.{list_any, list_all}
use Rattle.std.specs.Ordering.{nat_cmp, int_cmp, ordering_then, is_gt, is_eq}
use Rattle.std.specs.Cmp.Lexicographic.{slice_cmp}
use Rattle.std.specs.declared.cmp.Ordering.{Ordering}
use Rattle.std.specs.declared.cmp.Ordering.TheVariants.{Less, Equal, Greater}
use Rattle.std.proofs.lemmas.Bool.{false≢true, eqb-true, and_parts, or_cases}
use Rattle.std.proofs.lemmas.Bool.Decides.{nat_tests}
use Rattle.std.proofs.lemmas.Int.{ints}
use Rattle.gd_base.specs.Order.{variant, contents_cmp, datum_eq, precision_index}
use Rattle.gd_base.specs.declared.datum.Precision.{Precision}
use Rattle.gd_base.specs.declared.datum.Precision.TheVariants.{Year, Month, Day, Time}
use Rattle.gd_base.specs.declared.datum.Datum.{Datum}
use Rattle.gd_base.specs.declared.datum.Datum.TheVariants as datum
use Rattle.gd_defs.specs.Data.{Kind, of_text, of_int, of_boolean, of_datetime, has_kind, Test, anything, equals, differs, is_one_of, is_below, is_above, matches_words, passes}
use Rattle.gd_prim.specs.declared.Primitive.{Primitive}
use Rattle.gd_prim.specs.Live.{value_at}
use Rattle.gd_defs.specs.Pattern.{Pattern}
use Rattle.gd_defs.specs.Plan.{least, value_test}
use Rattle.gd_defs.specs.Template.{holds, ordered_datum}
use Rattle.gd_template_laws.proofs.Bools.{and-true}
use Rattle.gd_template_laws.specs.Fits.{IsBounded, AreOfKind, IsOfText, FitsKind}

-- ---- the kind of a value

-- the variant that a kind has
abbrev kind_variant : Kind → ℕ
kind_variant of_text = 3
kind_variant of_int = 1
kind_variant of_boolean = 0
kind_variant of_datetime = 2

has_kind-variant : (k : Kind) (v : Datum) → has_kind k v ≡ nat_eq (variant v) (kind_variant k)
has_kind-variant of_text (datum.Bool b) = refl
has_kind-variant of_text (datum.Int n) = refl
has_kind-variant of_text (datum.Moment ms precision) = refl
has_kind-variant of_text (datum.Text t) = refl
has_kind-variant of_text (datum.Object o) = refl
has_kind-variant of_text datum.Empty = refl
has_kind-variant of_int (datum.Bool b) = refl
has_kind-variant of_int (datum.Int n) = refl
has_kind-variant of_int (datum.Moment ms precision) = refl
has_kind-variant of_int (datum.Text t) = refl
has_kind-variant of_int (datum.Object o) = refl
has_kind-variant of_int datum.Empty = refl
has_kind-variant of_boolean (datum.Bool b) = refl
has_kind-variant of_boolean (datum.Int n) = refl
has_kind-variant of_boolean (datum.Moment ms precision) = refl
has_kind-variant of_boolean (datum.Text t) = refl
has_kind-variant of_boolean (datum.Object o) = refl
has_kind-variant of_boolean datum.Empty = refl
has_kind-variant of_datetime (datum.Bool b) = refl
has_kind-variant of_datetime (datum.Int n) = refl
has_kind-variant of_datetime (datum.Moment ms precision) = refl
has_kind-variant of_datetime (datum.Text t) = refl
has_kind-variant of_datetime (datum.Object o) = refl
has_kind-variant of_datetime datum.Empty = refl

same_variant : (k : Kind) (v w : Datum) → variant v ≡ variant w → has_kind k w ≡ true → has_kind k v ≡ true
same_variant k v w same of = has_kind-variant k v ∙ ap (λ n. nat_eq n (kind_variant k)) same ∙ sym (has_kind-variant k w) ∙ of

first_equal : (a b : ℕ) (c : Ordering) → is_eq (ordering_then (nat_cmp a b) c) ≡ true → a ≡ b
first_equal a b c same = grind (arith, nat_tests)

equal-kind : (k : Kind) (v w : Datum) → has_kind k w ≡ true → datum_eq v w ≡ true → has_kind k v ≡ true
equal-kind k v w of same = same_variant k v w (first_equal (variant v) (variant w) (contents_cmp v w) same) of

-- ---- the least of a kind

at_least : (m n : ℤ) → int_le m n ≡ true → (is_gt (int_cmp n m) || is_eq (int_cmp n m)) ≡ true
at_least m n above = grind (arith, ints, nat_tests)

least-text : (t : List ℕ) → (is_gt (slice_cmp nat_cmp t []) || is_eq (slice_cmp nat_cmp t [])) ≡ true
least-text [] = refl
least-text (x ∷ xs) = refl

then-at_least : (o c : Ordering) → (is_gt o || is_eq o) ≡ true → (is_gt c || is_eq c) ≡ true → (is_gt (ordering_then o c) || is_eq (ordering_then o c)) ≡ true
then-at_least Less c first second = first
then-at_least Equal c first second = second
then-at_least Greater c first second = first

least-precision : (p : Precision) → (is_gt (nat_cmp (precision_index p) 0) || is_eq (nat_cmp (precision_index p) 0)) ≡ true
least-precision Year = refl
least-precision Month = refl
least-precision Day = refl
least-precision Time = refl

abbrev least_int : ℤ
least_int = negsuc 9_223_372_036_854_775_807

abbrev least_moment : ℤ
least_moment = negsuc 62_167_219_199_999

-- a value is of a kind where it is not below the least of the kind
pub least-kind : (k : Kind) (v : Datum) → IsBounded v → passes (is_above (least k) true) v ≡ has_kind k v
least-kind of_text (datum.Bool b) is = refl
least-kind of_text (datum.Int n) is = refl
least-kind of_text (datum.Moment ms precision) is = refl
least-kind of_text (datum.Text t) is = least-text t
least-kind of_text (datum.Object o) is = refl
least-kind of_text datum.Empty is = refl
least-kind of_int (datum.Bool b) is = refl
least-kind of_int (datum.Int n) is = at_least least_int n is
least-kind of_int (datum.Moment ms precision) is = refl
least-kind of_int (datum.Text t) is = refl
least-kind of_int (datum.Object o) is = refl
least-kind of_int datum.Empty is = refl
least-kind of_boolean (datum.Bool true) is = refl
least-kind of_boolean (datum.Bool false) is = refl
least-kind of_boolean (datum.Int n) is = refl
least-kind of_boolean (datum.Moment ms precision) is = refl
least-kind of_boolean (datum.Text t) is = refl
least-kind of_boolean (datum.Object o) is = refl
least-kind of_boolean datum.Empty is = refl
least-kind of_datetime (datum.Bool b) is = refl
least-kind of_datetime (datum.Int n) is = refl
least-kind of_datetime (datum.Moment ms precision) is = then-at_least (int_cmp ms least_moment) (nat_cmp (precision_index precision) 0) (at_least least_moment ms is) (least-precision precision)
least-kind of_datetime (datum.Text t) is = refl
least-kind of_datetime (datum.Object o) is = refl
least-kind of_datetime datum.Empty is = refl

-- ---- the tests of values

-- what follows from another need not be asked beside it
pub asked_twice : (a b : Bool) → (b ≡ true → a ≡ true) → b ≡ (a && b)
asked_twice true b follows = refl
asked_twice false true follows = sym (follows refl)
asked_twice false false follows = refl

in_order-kind : (k : Kind) (v w : Datum) (b : Bool) → has_kind k w ≡ true → (variant v == variant w && b) ≡ true → has_kind k v ≡ true
in_order-kind k v w b of passed = same_variant k v w (eqb-true (variant v) (variant w) (and_parts (variant v == variant w) b passed).0) of

one_of-kind : (k : Kind) (v : Datum) (ws : List Datum) → AreOfKind k ws → list_any (datum_eq v) ws ≡ true → has_kind k v ≡ true
one_of-kind k v [] of passed = absurd (false≢true passed)
one_of-kind k v (w ∷ ws) of passed = elim (or_cases (datum_eq v w) (list_any (datum_eq v) ws) passed) [
  | inl same ↦ equal-kind k v w of.0 same
  | inr later ↦ one_of-kind k v ws of.1 later
]

words-kind : (k : Kind) (p : Pattern) (v : Datum) → IsOfText k → passes (matches_words p) v ≡ true → has_kind k v ≡ true
words-kind of_text p (datum.Text t) of passed = refl
words-kind of_text p (datum.Bool b) of passed = passed
words-kind of_text p (datum.Int n) of passed = passed
words-kind of_text p (datum.Moment ms precision) of passed = passed
words-kind of_text p (datum.Object o) of passed = passed
words-kind of_text p datum.Empty of passed = passed
words-kind of_int p v of passed = absurd of
words-kind of_boolean p v of passed = absurd of
words-kind of_datetime p v of passed = absurd of

-- the constraints of a test of a value of a kind: the kind, and the test
pub value_test-holds : (prims : List Primitive) (x : ℕ) (v : Datum) (k : Kind) (t : Test) → value_at prims x ≡ v → ordered_datum prims x ≡ v → IsBounded v → FitsKind k t
    → list_all (λ c. holds prims c x) (value_test k t) ≡ (has_kind k v && passes t v)
value_test-holds prims x v k anything read ordered bounded of =
    ap (λ d. passes (is_above (least k) true) d && true) ordered ∙ ap (λ b. b && true) (least-kind k v bounded)
value_test-holds prims x v k (differs w) read ordered bounded of =
    ap (λ d. passes (is_above (least k) true) d && (passes (differs w) (value_at prims x) && true)) ordered
    ∙ ap (λ d. passes (is_above (least k) true) v && (passes (differs w) d && true)) read
    ∙ ap (λ b. b && (not (datum_eq v w) && true)) (least-kind k v bounded)
    ∙ ap (λ b. has_kind k v && b) (and-true (not (datum_eq v w)))
value_test-holds prims x v k (equals w) read ordered bounded of =
    ap (λ d. passes (equals w) d && true) read ∙ and-true (datum_eq v w) ∙ asked_twice (has_kind k v) (datum_eq v w) (equal-kind k v w of)
value_test-holds prims x v k (is_one_of ws) read ordered bounded of =
    ap (λ d. passes (is_one_of ws) d && true) read ∙ and-true (list_any (datum_eq v) ws) ∙ asked_twice (has_kind k v) (list_any (datum_eq v) ws) (one_of-kind k v ws of)
value_test-holds prims x v k (is_below w e) read ordered bounded of =
    ap (λ d. passes (is_below w e) d && true) ordered ∙ and-true (passes (is_below w e) v) ∙ asked_twice (has_kind k v) (passes (is_below w e) v) (in_order-kind k v w _ of)
value_test-holds prims x v k (is_above w e) read ordered bounded of =
    ap (λ d. passes (is_above w e) d && true) ordered ∙ and-true (passes (is_above w e) v) ∙ asked_twice (has_kind k v) (passes (is_above w e) v) (in_order-kind k v w _ of)
value_test-holds prims x v k (matches_words p) read ordered bounded of =
    ap (λ d. passes (matches_words p) d && true) read ∙ and-true (passes (matches_words p) v) ∙ asked_twice (has_kind k v) (passes (matches_words p) v) (words-kind k p v of)

-- ---- why values have to be bounded

-- a whole number below those of 64 bits would have no kind by its template
pub unbounded_number : passes (is_above (least of_int) true) (datum.Int (negsuc 9_223_372_036_854_775_808)) ≡ false
unbounded_number = refl

-- nor would a moment before the year 0000
pub unbounded_moment : passes (is_above (least of_datetime) true) (datum.Moment (negsuc 62_167_219_200_000) Time) ≡ false
unbounded_moment = refl
