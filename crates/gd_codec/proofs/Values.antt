-- Texts, references, names and values of groups are read exactly.
use Rattle.std.proofs.Common.{◌≡◌, refl, inl, inr, ℕ, suc, ◌-◌, ◌%◌, ◌^◌, ◌≤◌, nat_lt, ltb-true, Bool, true, false, ◌==◌, if◌then◌else◌, List, [], ◌∷◌, length, Option, Some, None, is_some, sym, ◌∙◌, ap, subst, arith, IsTrue}
use Rattle.std.proofs.lemmas.Bool.{cases_eq}
use Rattle.std.proofs.lemmas.Int.{ints, of_z-to_z}
use Rattle.std.proofs.lemmas.Bool.Decides.{nat_tests}
use Rattle.std.specs.Prelude.{ℤ, pos, negsuc}
use Rattle.std.specs.Int.{w64, to_be_bytes, bytes_high_first, cast_signed, cast_unsigned}
use Rattle.gd_base.specs.declared.datum.Precision.{Precision}
use Rattle.gd_base.specs.declared.datum.Precision.TheVariants.{Year, Month, Day, Time}
use Rattle.gd_base.specs.declared.datum.Datum.{Datum}
use Rattle.gd_base.specs.declared.datum.Datum.TheVariants as datum
use Rattle.gd_base.specs.Order.{precision_index}
use Rattle.gd_prim.specs.WellFormed.{is_moment}
use Rattle.gd_grammar.specs.Grammar.{IsText}
use Rattle.gd_grammar.proofs.Scans.{Then, Only}
use Rattle.gd_bytes.specs.Group.{text_bytes, TextFits, reference_bytes, ReferenceFits, name_bytes, NameFits, value_bytes, ValueFits}
use Rattle.gd_grammar.specs.Reading.{number_at, begins_number}
use Rattle.gd_utf8.specs.Utf8.{utf8_at}
use Rattle.gd_codec.specs.Groups.{up_to, moments, text_at, precision_from, moment_at, contents_at, value_at, reference_at, name_at}
use Rattle.gd_grammar.proofs.Exact.{Sound, Sound-then, Sound-only, Sound-same, Sound-mapped, Mapped, mapped, join, Announced, Sound-announced}
use Rattle.gd_grammar.proofs.Ranges.{InRange, Sound-range, Number, Exact-number}
use Rattle.gd_utf8.proofs.Exact.{Utf8, Exact-utf8, utf8_some}

-- ---- texts

abbrev pub Text : List ℕ → List ℕ → Type 0
Text = IsText text_bytes TextFits

abbrev pub Length : ℕ → List ℕ → Type 0
Length = InRange 0 4096 2

pub parts_text : (t w : List ℕ) → Then Length Utf8 t w → Text t w
parts_text t w (n, v, u, (low, high, v_is), (long, utf8, u_is), w_is) = ((omega (arith, long, high), utf8), join w_is (v_is ∙ ap (λ (k : ℕ). bytes_high_first 2 k) (sym long)) u_is)

pub text_parts : (t w : List ℕ) → Text t w → Then Length Utf8 t w
text_parts t w ((short, utf8), w_is) = (length t, bytes_high_first 2 (length t), t, (omega arith, short, refl), (refl, utf8, refl), w_is)

pub Sound-text : Sound Text text_at
Sound-text = Sound-same (Then Length Utf8) Text text_at parts_text text_parts
    (Sound-then Length Utf8 (number_at (up_to 4096) 2) utf8_at (Sound-range 0 4096 2 (omega arith) refl refl) (λ n w s. record { exact = Exact-utf8 n; some = utf8_some n }))

-- ---- references and names

-- the bytes of a reference that is there or not
abbrev pub Reference : Bool → Option ℕ → List ℕ → Type 0
Reference present r w = (is_some r ≡ present) × ReferenceFits r × (w ≡ reference_bytes r)

abbrev pub Place : Option ℕ → List ℕ → Type 0
Place = Mapped (λ p. Some p) (InRange 0 (2 ^ 32 - 1) 4)

pub place_reference : (r : Option ℕ) (w : List ℕ) → Place r w → Reference true r w
place_reference r w (p, r_is, (low, high, w_is)) = subst (λ (x : Option ℕ). Reference true x w) (sym r_is) (refl, omega (arith, high), w_is)

pub reference_place : (r : Option ℕ) (w : List ℕ) → Reference true r w → Place r w
reference_place None w (there, fits, w_is) = cc
reference_place (Some p) w (there, fits, w_is) = (p, refl, (omega arith, omega (arith, fits), w_is))

pub no_reference : (r : Option ℕ) (w : List ℕ) → Reference false r w → Only None r w
no_reference None w (there, fits, w_is) = (refl, w_is)
no_reference (Some p) w (there, fits, w_is) = cc

to_reference : (present : Bool) (r : Option ℕ) (w : List ℕ) → Announced present (InRange 0 (2 ^ 32 - 1) 4) r w → Reference present r w
to_reference true r w placed = place_reference r w placed
to_reference false r w (same, none) = subst (λ (x : Option ℕ). Reference false x w) (sym same) (refl, tt, none)

from_reference : (present : Bool) (r : Option ℕ) (w : List ℕ) → Reference present r w → Announced present (InRange 0 (2 ^ 32 - 1) 4) r w
from_reference true r w is = reference_place r w is
from_reference false r w is = no_reference r w is

pub Sound-reference : (present : Bool) → Sound (Reference present) (reference_at present)
unfolding reference_at
Sound-reference present = Sound-same (Announced present (InRange 0 (2 ^ 32 - 1) 4)) (Reference present) (reference_at present) (to_reference present) (from_reference present)
    (Sound-announced present (InRange 0 (2 ^ 32 - 1) 4) (number_at (up_to (2 ^ 32 - 1)) 4) (Sound-range 0 (2 ^ 32 - 1) 4 (omega arith) refl refl))

-- the bytes of a name that is there or not
abbrev pub Name : Bool → Option (List ℕ) → List ℕ → Type 0
Name present n w = (is_some n ≡ present) × NameFits n × (w ≡ name_bytes n)

abbrev pub Given : Option (List ℕ) → List ℕ → Type 0
Given = Mapped (λ t. Some t) Text

pub given_name : (n : Option (List ℕ)) (w : List ℕ) → Given n w → Name true n w
given_name n w (t, n_is, (fits, w_is)) = subst (λ (x : Option (List ℕ)). Name true x w) (sym n_is) (refl, fits, w_is)

pub name_given : (n : Option (List ℕ)) (w : List ℕ) → Name true n w → Given n w
name_given None w (there, fits, w_is) = cc
name_given (Some t) w (there, fits, w_is) = (t, refl, (fits, w_is))

pub no_name : (n : Option (List ℕ)) (w : List ℕ) → Name false n w → Only None n w
no_name None w (there, fits, w_is) = (refl, w_is)
no_name (Some t) w (there, fits, w_is) = cc

to_name : (present : Bool) (n : Option (List ℕ)) (w : List ℕ) → Announced present Text n w → Name present n w
to_name true n w given = given_name n w given
to_name false n w (same, none) = subst (λ (x : Option (List ℕ)). Name false x w) (sym same) (refl, tt, none)

from_name : (present : Bool) (n : Option (List ℕ)) (w : List ℕ) → Name present n w → Announced present Text n w
from_name true n w is = name_given n w is
from_name false n w is = no_name n w is

pub Sound-name : (present : Bool) → Sound (Name present) (name_at present)
unfolding name_at
Sound-name present = Sound-same (Announced present Text) (Name present) (name_at present) (to_name present) (from_name present) (Sound-announced present Text text_at Sound-text)

-- ---- values

-- the place of the kind of a value in the order of kinds
abbrev pub kind : Datum → ℕ
kind datum.Empty = 0
kind (datum.Text t) = 1
kind (datum.Int n) = 2
kind (datum.Bool b) = 3
kind (datum.Moment ms precision) = 4
kind (datum.Object o) = 5

-- the bytes of the contents of a value
abbrev pub contents : Datum → List ℕ
contents datum.Empty = []
contents (datum.Text t) = text_bytes t
contents (datum.Int n) = to_be_bytes w64 (cast_unsigned w64 n)
contents (datum.Bool b) = (if b then 1 else 0) ∷ []
contents (datum.Moment ms precision) = precision_index precision ∷ to_be_bytes w64 (cast_unsigned w64 ms)
contents (datum.Object o) = []

abbrev pub Contents : ℕ → Datum → List ℕ → Type 0
Contents k v w = (kind v ≡ k) × ValueFits v × (w ≡ contents v)

-- the kind alone decides the variant
pub empty_only : (v : Datum) (w : List ℕ) → Contents 0 v w → Only datum.Empty v w
empty_only datum.Empty w (k, fits, w_is) = (refl, w_is)
empty_only (datum.Text t) w (k, fits, w_is) = absurd (omega (arith, k))
empty_only (datum.Int n) w (k, fits, w_is) = absurd (omega (arith, k))
empty_only (datum.Bool b) w (k, fits, w_is) = absurd (omega (arith, k))
empty_only (datum.Moment ms precision) w (k, fits, w_is) = absurd (omega (arith, k))
empty_only (datum.Object o) w (k, fits, w_is) = absurd fits

pub only_empty : (v : Datum) (w : List ℕ) → Only datum.Empty v w → Contents 0 v w
only_empty v w (same, none) = subst (λ (x : Datum). Contents 0 x w) (sym same) (refl, tt, none)

abbrev pub TextValue : Datum → List ℕ → Type 0
TextValue = Mapped (λ t. datum.Text t) Text

pub text_value : (v : Datum) (w : List ℕ) → Contents 1 v w → TextValue v w
text_value (datum.Text t) w (k, fits, w_is) = (t, refl, (fits, w_is))
text_value datum.Empty w (k, fits, w_is) = absurd (omega (arith, k))
text_value (datum.Int n) w (k, fits, w_is) = absurd (omega (arith, k))
text_value (datum.Bool b) w (k, fits, w_is) = absurd (omega (arith, k))
text_value (datum.Moment ms precision) w (k, fits, w_is) = absurd (omega (arith, k))
text_value (datum.Object o) w (k, fits, w_is) = absurd fits

pub value_text : (v : Datum) (w : List ℕ) → TextValue v w → Contents 1 v w
value_text v w (t, v_is, (fits, w_is)) = subst (λ (x : Datum). Contents 1 x w) (sym v_is) (refl, fits, w_is)

-- numbers of 64 bits

abbrev pub Bits : ℕ → List ℕ → Type 0
Bits = InRange 0 (2 ^ 64 - 1) 8

abbrev pub IntValue : Datum → List ℕ → Type 0
IntValue = Mapped (λ n. datum.Int (cast_signed w64 n)) Bits

pub within_bits : (z : ℤ) → cast_signed w64 (cast_unsigned w64 z) ≡ z → cast_unsigned w64 z ≤ 2 ^ 64 - 1
within_bits (negsuc m) same = omega arith
within_bits (pos m) same = by (nat_lt m (2 ^ 63)) refl same
  where
    by : (t : Bool) → nat_lt m (2 ^ 63) ≡ t → (if t then pos m else negsuc (2 ^ 64 - suc m)) ≡ pos m → m ≤ 2 ^ 64 - 1
    by true e same = let small = ltb-true m (2 ^ 63) e in omega (arith, small)
    by false e same = cc

pub int_value : (v : Datum) (w : List ℕ) → Contents 2 v w → IntValue v w
int_value (datum.Int z) w (k, fits, w_is) = (cast_unsigned w64 z, ap (λ (x : ℤ). datum.Int x) (sym fits), (omega arith, within_bits z fits, w_is))
int_value datum.Empty w (k, fits, w_is) = absurd (omega (arith, k))
int_value (datum.Text t) w (k, fits, w_is) = absurd (omega (arith, k))
int_value (datum.Bool b) w (k, fits, w_is) = absurd (omega (arith, k))
int_value (datum.Moment ms precision) w (k, fits, w_is) = absurd (omega (arith, k))
int_value (datum.Object o) w (k, fits, w_is) = absurd fits

pub bits_back : (n : ℕ) → n ≤ 2 ^ 64 - 1 → cast_unsigned w64 (cast_signed w64 n) ≡ n
bits_back n h = of_z-to_z w64 n (omega (arith, h))

pub value_int : (v : Datum) (w : List ℕ) → IntValue v w → Contents 2 v w
value_int v w (n, v_is, (low, high, w_is)) =
    let back = bits_back n high in
    subst (λ (x : Datum). Contents 2 x w) (sym v_is) (refl, ap (cast_signed w64) back, w_is ∙ ap (λ (k : ℕ). bytes_high_first 8 k) (sym back))

-- truth values

abbrev pub BoolValue : Datum → List ℕ → Type 0
BoolValue = Mapped (λ n. datum.Bool (n == 1)) (InRange 0 1 1)

bool_byte : (n : ℕ) → n ≤ 1 → n % 256 ≡ (if n == 1 then 1 else 0)
bool_byte n h = grind (arith, nat_tests)

pub bool_value : (v : Datum) (w : List ℕ) → Contents 3 v w → BoolValue v w
bool_value (datum.Bool true) w (k, fits, w_is) = (1, refl, (omega arith, omega arith, w_is))
bool_value (datum.Bool false) w (k, fits, w_is) = (0, refl, (omega arith, omega arith, w_is))
bool_value datum.Empty w (k, fits, w_is) = absurd (omega (arith, k))
bool_value (datum.Text t) w (k, fits, w_is) = absurd (omega (arith, k))
bool_value (datum.Int n) w (k, fits, w_is) = absurd (omega (arith, k))
bool_value (datum.Moment ms precision) w (k, fits, w_is) = absurd (omega (arith, k))
bool_value (datum.Object o) w (k, fits, w_is) = absurd fits

pub value_bool : (v : Datum) (w : List ℕ) → BoolValue v w → Contents 3 v w
value_bool v w (n, v_is, (low, high, w_is)) = subst (λ (x : Datum). Contents 3 x w) (sym v_is) (refl, tt, w_is ∙ ap (λ (b : ℕ). b ∷ []) (bool_byte n high))

-- moments

abbrev pub Milliseconds : ℕ → Datum → List ℕ → Type 0
Milliseconds p = Mapped (λ n. datum.Moment (cast_signed w64 n) (precision_from p)) (Number moments 8)

abbrev pub MomentValue : Datum → List ℕ → Type 0
MomentValue = Then (InRange 0 3 1) Milliseconds

-- a number of the ranges of moments is one in two's complement
pub moment_in : (n : ℕ) → begins_number moments 0 n ≡ true → IsTrue (is_moment (cast_signed w64 n)) × (n ≤ 2 ^ 64 - 1)
moment_in n is = (grind (arith, ints, nat_tests), grind (arith, nat_tests))

pub in_moment : (z : ℤ) → IsTrue (is_moment z) → (begins_number moments 0 (cast_unsigned w64 z) ≡ true) × (cast_signed w64 (cast_unsigned w64 z) ≡ z)
in_moment (pos m) t = (grind (arith, ints, nat_tests), grind (arith, ints, nat_tests))
in_moment (negsuc m) t = (grind (arith, ints, nat_tests), grind (arith, ints, nat_tests))

pub precision_back : (p : ℕ) → p ≤ 3 → precision_index (precision_from p) ≡ p % 256
precision_back p h = elim (cases_eq p 0) [
  | inl e ↦ at p 0 e refl
  | inr n0 ↦ elim (cases_eq p 1) [
    | inl e ↦ at p 1 e refl
    | inr n1 ↦ elim (cases_eq p 2) [ inl e ↦ at p 2 e refl | inr n2 ↦ at p 3 (omega (arith, h, n0, n1, n2)) refl ]
  ]
]
  where
    at : (p q : ℕ) → p ≡ q → precision_index (precision_from q) ≡ q % 256 → precision_index (precision_from p) ≡ p % 256
    at p q e is = subst (λ (x : ℕ). precision_index (precision_from x) ≡ x % 256) (sym e) is

pub moment_value : (v : Datum) (w : List ℕ) → Contents 4 v w → MomentValue v w
moment_value (datum.Moment ms precision) w (k, fits, w_is) =
    let (within, back) = in_moment ms fits in
    let (few, p_is, byte) = place precision in (
      precision_index precision,
      bytes_high_first 1 (precision_index precision),
      to_be_bytes w64 (cast_unsigned w64 ms),
      (omega arith, few, refl),
      (cast_unsigned w64 ms, ap (λ (x : ℤ). datum.Moment x precision) (sym back) ∙ ap (λ (x : Precision). datum.Moment (cast_signed w64 (cast_unsigned w64 ms)) x) (sym p_is), (within, refl)),
      w_is ∙ ap (λ (x : ℕ). x ∷ to_be_bytes w64 (cast_unsigned w64 ms)) (sym byte),
    )
  where
    place : (p : Precision) → (precision_index p ≤ 3) × (precision_from (precision_index p) ≡ p) × (precision_index p % 256 ≡ precision_index p)
    place Year = (omega arith, refl, refl)
    place Month = (omega arith, refl, refl)
    place Day = (omega arith, refl, refl)
    place Time = (omega arith, refl, refl)
moment_value datum.Empty w (k, fits, w_is) = absurd (omega (arith, k))
moment_value (datum.Text t) w (k, fits, w_is) = absurd (omega (arith, k))
moment_value (datum.Int n) w (k, fits, w_is) = absurd (omega (arith, k))
moment_value (datum.Bool b) w (k, fits, w_is) = absurd (omega (arith, k))
moment_value (datum.Object o) w (k, fits, w_is) = absurd fits

pub value_moment : (v : Datum) (w : List ℕ) → MomentValue v w → Contents 4 v w
value_moment v w (p, x, u, (low, high, x_is), (n, v_is, (within, u_is)), w_is) =
    let (fits, small) = moment_in n within in
    let back = bits_back n small in
    subst (λ (y : Datum). Contents 4 y w) (sym v_is)
    (refl, fits, join w_is (x_is ∙ ap (λ (y : ℕ). y ∷ []) (sym (precision_back p high))) (u_is ∙ ap (λ (k : ℕ). bytes_high_first 8 k) (sym back)))

-- contents of each kind
sound_moment : Sound MomentValue moment_at
sound_moment = Sound-then (InRange 0 3 1) Milliseconds (number_at (up_to 3) 1) (λ p. mapped (λ n. datum.Moment (cast_signed w64 n) (precision_from p)) (number_at moments 8)) (Sound-range 0 3 1 (omega arith) refl refl)
    (λ p w s. Sound-mapped (λ n. datum.Moment (cast_signed w64 n) (precision_from p)) (Number moments 8) (number_at moments 8) (record { exact = Exact-number moments 8 refl refl refl; some = (0, bytes_high_first 8 0, (refl, refl)) }))

contents_0 : Sound (Contents 0) (contents_at 0)
unfolding contents_at
contents_0 = Sound-same (Only datum.Empty) (Contents 0) (contents_at 0) only_empty empty_only (Sound-only datum.Empty)

contents_1 : Sound (Contents 1) (contents_at 1)
unfolding contents_at
contents_1 = Sound-same TextValue (Contents 1) (contents_at 1) value_text text_value (Sound-mapped (λ t. datum.Text t) Text text_at Sound-text)

contents_2 : Sound (Contents 2) (contents_at 2)
unfolding contents_at
contents_2 = Sound-same IntValue (Contents 2) (contents_at 2) value_int int_value (Sound-mapped (λ n. datum.Int (cast_signed w64 n)) Bits (number_at (up_to (2 ^ 64 - 1)) 8) (Sound-range 0 (2 ^ 64 - 1) 8 (omega arith) refl refl))

contents_3 : Sound (Contents 3) (contents_at 3)
unfolding contents_at
contents_3 = Sound-same BoolValue (Contents 3) (contents_at 3) value_bool bool_value (Sound-mapped (λ n. datum.Bool (n == 1)) (InRange 0 1 1) (number_at (up_to 1) 1) (Sound-range 0 1 1 (omega arith) refl refl))

contents_4 : Sound (Contents 4) (contents_at 4)
unfolding contents_at
contents_4 = Sound-same MomentValue (Contents 4) (contents_at 4) value_moment moment_value sound_moment

sound_contents : (k : ℕ) → k ≤ 4 → Sound (Contents k) (contents_at k)
sound_contents k h = elim (cases_eq k 0) [
  | inl e ↦ at 0 (sym e) contents_0
  | inr n0 ↦ elim (cases_eq k 1) [
    | inl e ↦ at 1 (sym e) contents_1
    | inr n1 ↦ elim (cases_eq k 2) [ inl e ↦ at 2 (sym e) contents_2 | inr n2 ↦ elim (cases_eq k 3) [ inl e ↦ at 3 (sym e) contents_3 | inr n3 ↦ at 4 (omega (arith, h, n0, n1, n2, n3)) contents_4 ] ]
  ]
]
  where
    at : (q : ℕ) → q ≡ k → Sound (Contents q) (contents_at q) → Sound (Contents k) (contents_at k)
    at q e s = subst (λ (x : ℕ). Sound (Contents x) (contents_at x)) e s

-- ---- a kind and its contents

abbrev pub Value : Datum → List ℕ → Type 0
Value = IsText value_bytes ValueFits

abbrev pub Kind : ℕ → List ℕ → Type 0
Kind = InRange 0 4 1

-- a value that fits is spelled by its kind and its contents
pub spelled : (v : Datum) → ValueFits v → (value_bytes v ≡ kind v ∷ contents v) × (kind v ≤ 4) × (kind v % 256 ≡ kind v)
spelled datum.Empty fits = (refl, omega arith, refl)
spelled (datum.Text t) fits = (refl, omega arith, refl)
spelled (datum.Int n) fits = (refl, omega arith, refl)
spelled (datum.Bool b) fits = (refl, omega arith, refl)
spelled (datum.Moment ms precision) fits = (refl, omega arith, refl)
spelled (datum.Object o) fits = absurd fits

pub parts_value : (v : Datum) (w : List ℕ) → Then Kind Contents v w → Value v w
parts_value v w (k, x, u, (low, high, x_is), (k_is, fits, u_is), w_is) =
    let (all, few, byte) = spelled v fits in
    let head : k % 256 ≡ kind v = omega (arith, k_is, high) in
    (fits, join w_is (x_is ∙ ap (λ (b : ℕ). b ∷ []) head) u_is ∙ sym all)

pub value_parts : (v : Datum) (w : List ℕ) → Value v w → Then Kind Contents v w
value_parts v w (fits, w_is) =
    let (all, few, byte) = spelled v fits in
    (kind v, bytes_high_first 1 (kind v), contents v, (omega arith, few, refl), (refl, fits, refl), w_is ∙ all ∙ ap (λ (b : ℕ). b ∷ contents v) (sym byte))

pub Sound-value : Sound Value value_at
unfolding value_at
Sound-value = Sound-same (Then Kind Contents) Value value_at parts_value value_parts (Sound-then Kind Contents (number_at (up_to 4) 1) contents_at (Sound-range 0 4 1 (omega arith) refl refl) (λ k w s. sound_contents k s.1))
