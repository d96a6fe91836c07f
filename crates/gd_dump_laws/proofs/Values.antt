-- Values, each with the space behind it, are read exactly.
use Rattle.std.proofs.Common.{◌≡◌, refl, inl, inr, ℕ, ◌-◌, ◌^◌, ℤ, pos, negsuc, Bool, true, false, ◌==◌, if◌then◌else◌, List, [], ◌∷◌, ◌++◌, sym, ◌∙◌, ap, subst, arith, IsTrue}
use Rattle.std.proofs.lemmas.Bool.{cases_eq}
use Rattle.std.proofs.lemmas.Bool.Decides.{nat_tests}
use Rattle.std.proofs.lemmas.Int.{ints}
use Rattle.gd_base.specs.declared.datum.Precision.{Precision}
use Rattle.gd_base.specs.declared.datum.Precision.TheVariants.{Year, Month, Day, Time}
use Rattle.gd_base.specs.declared.datum.Datum.{Datum}
use Rattle.gd_base.specs.declared.datum.Datum.TheVariants as datum
use Rattle.gd_prim.specs.WellFormed.{max_moment, is_number, is_moment}
use Rattle.gd_grammar.specs.Grammar.{IsText, text_at}
use Rattle.gd_grammar.specs.Reading.{between, byte_if}
use Rattle.gd_grammar.proofs.Scans.{Then}
use Rattle.gd_grammar.proofs.Exact.{Exact-byte, OneByte, Sound, Sound-then, Sound-same, Sound-mapped, Mapped, mapped, join}
use Rattle.gd_grammar.proofs.Numbers.{Word}
use Rattle.gd_dump_laws.proofs.Marks.{Sound-word}
use Rattle.gd_dump_laws.proofs.Hex.{Marked_text, Sound-text}
use Rattle.gd_dump_laws.proofs.Parts.{InInts, Int, Sound-int, no_space}
use Rattle.gd_dump_laws.specs.Dump.{int_text, hex_text, precision_letter, value_text, ValueFits}
use Rattle.gd_dump_laws.specs.Reading.{int_to, hex_to, is_precision, precision_of, is_kind, boolean_at, moment_at, integer_at, string_at, nothing_at, contents_at, value_at}

-- the letter of the kind of a value
abbrev pub letter : Datum → ℕ
letter datum.Empty = 101
letter (datum.Int n) = 105
letter (datum.Bool b) = 98
letter (datum.Moment ms precision) = 109
letter (datum.Text t) = 116
letter (datum.Object o) = 0

-- what stands behind it
abbrev pub contents : Datum → List ℕ
contents datum.Empty = []
contents (datum.Int n) = int_text n
contents (datum.Bool b) = (if b then 49 else 48) ∷ []
contents (datum.Moment ms precision) = precision_letter precision ∷ int_text ms
contents (datum.Text t) = hex_text t
contents (datum.Object o) = []

-- the contents of a value of this kind, and a space
abbrev pub Contents : ℕ → Datum → List ℕ → Type 0
Contents c v w = (c ≡ letter v) × ValueFits v × (w ≡ contents v ++ 32 ∷ [])

-- ---- nothing

to_nothing : (v : Datum) (w : List ℕ) → Mapped (λ u. datum.Empty) (Word (32 ∷ [])) v w → Contents 101 v w
to_nothing v w (u, v_is, w_is) = subst (λ (y : Datum). Contents 101 y w) (sym v_is) (refl, tt, w_is)

from_nothing : (v : Datum) (w : List ℕ) → Contents 101 v w → Mapped (λ u. datum.Empty) (Word (32 ∷ [])) v w
from_nothing datum.Empty w (k, fits, w_is) = (tt, refl, w_is)
from_nothing (datum.Int n) w (k, fits, w_is) = absurd (omega (arith, k))
from_nothing (datum.Bool b) w (k, fits, w_is) = absurd (omega (arith, k))
from_nothing (datum.Moment ms precision) w (k, fits, w_is) = absurd (omega (arith, k))
from_nothing (datum.Text t) w (k, fits, w_is) = absurd (omega (arith, k))
from_nothing (datum.Object o) w (k, fits, w_is) = absurd fits

sound_nothing : Sound (Contents 101) nothing_at
unfolding nothing_at
sound_nothing = Sound-same (Mapped (λ u. datum.Empty) (Word (32 ∷ []))) (Contents 101) nothing_at to_nothing from_nothing (Sound-mapped (λ u. datum.Empty) (Word (32 ∷ [])) (text_at (32 ∷ [])) (Sound-word (32 ∷ [])))

-- ---- numbers

abbrev Number64 : ℤ → List ℕ → Type 0
Number64 = Int (2 ^ 63) (2 ^ 63 - 1) 32

in_number : (z : ℤ) → InInts (2 ^ 63) (2 ^ 63 - 1) z → IsTrue (is_number z)
in_number (pos n) h = grind (arith, ints, nat_tests)
in_number (negsuc n) h = grind (arith, ints, nat_tests)

number_in : (z : ℤ) → IsTrue (is_number z) → InInts (2 ^ 63) (2 ^ 63 - 1) z
number_in (pos n) t = grind (arith, ints, nat_tests)
number_in (negsuc n) t = grind (arith, ints, nat_tests)

to_integer : (v : Datum) (w : List ℕ) → Mapped (λ z. datum.Int z) Number64 v w → Contents 105 v w
to_integer v w (z, v_is, (within, w_is)) = subst (λ (y : Datum). Contents 105 y w) (sym v_is) (refl, in_number z within, w_is)

from_integer : (v : Datum) (w : List ℕ) → Contents 105 v w → Mapped (λ z. datum.Int z) Number64 v w
from_integer (datum.Int n) w (k, fits, w_is) = (n, refl, (number_in n fits, w_is))
from_integer datum.Empty w (k, fits, w_is) = absurd (omega (arith, k))
from_integer (datum.Bool b) w (k, fits, w_is) = absurd (omega (arith, k))
from_integer (datum.Moment ms precision) w (k, fits, w_is) = absurd (omega (arith, k))
from_integer (datum.Text t) w (k, fits, w_is) = absurd (omega (arith, k))
from_integer (datum.Object o) w (k, fits, w_is) = absurd fits

sound_integer : Sound (Contents 105) integer_at
unfolding integer_at
sound_integer = Sound-same (Mapped (λ z. datum.Int z) Number64) (Contents 105) integer_at to_integer from_integer
    (Sound-mapped (λ z. datum.Int z) Number64 (int_to (2 ^ 63) (2 ^ 63 - 1) 32) (Sound-int (2 ^ 63) (2 ^ 63 - 1) 32 (omega arith) (omega arith) (omega arith) no_space))

-- ---- truth values

abbrev BooleanParts : Datum → List ℕ → Type 0
BooleanParts = Then (OneByte (between 48 49)) (λ c. Mapped (λ u. datum.Bool (c == 49)) (Word (32 ∷ [])))

digit_back : (c : ℕ) → between 48 49 c ≡ true → c ≡ (if c == 49 then 49 else 48)
digit_back c is = grind (arith, nat_tests)

to_boolean : (v : Datum) (w : List ℕ) → BooleanParts v w → Contents 98 v w
to_boolean v w (c, a, x, (is, a_is), (u, v_is, x_is), w_is) = subst (λ (y : Datum). Contents 98 y w) (sym v_is) (refl, tt, join w_is a_is x_is ∙ ap (λ (y : ℕ). y ∷ 32 ∷ []) (digit_back c is))

from_boolean : (v : Datum) (w : List ℕ) → Contents 98 v w → BooleanParts v w
from_boolean (datum.Bool true) w (k, fits, w_is) = (49, 49 ∷ [], 32 ∷ [], (refl, refl), (tt, refl, refl), w_is)
from_boolean (datum.Bool false) w (k, fits, w_is) = (48, 48 ∷ [], 32 ∷ [], (refl, refl), (tt, refl, refl), w_is)
from_boolean datum.Empty w (k, fits, w_is) = absurd (omega (arith, k))
from_boolean (datum.Int n) w (k, fits, w_is) = absurd (omega (arith, k))
from_boolean (datum.Moment ms precision) w (k, fits, w_is) = absurd (omega (arith, k))
from_boolean (datum.Text t) w (k, fits, w_is) = absurd (omega (arith, k))
from_boolean (datum.Object o) w (k, fits, w_is) = absurd fits

sound_byte : (test : ℕ → Bool) (some : ℕ) → test some ≡ true → Sound (OneByte test) (byte_if test)
sound_byte test some is = record { exact = Exact-byte test some is; some = (some, some ∷ [], (is, refl)) }

sound_boolean : Sound (Contents 98) boolean_at
unfolding boolean_at
sound_boolean = Sound-same BooleanParts (Contents 98) boolean_at to_boolean from_boolean
    (Sound-then (OneByte (between 48 49)) (λ c. Mapped (λ u. datum.Bool (c == 49)) (Word (32 ∷ []))) (byte_if (between 48 49)) (λ c. mapped (λ u. datum.Bool (c == 49)) (text_at (32 ∷ []))) (sound_byte (between 48 49) 48 refl)
    (λ c w s. Sound-mapped (λ u. datum.Bool (c == 49)) (Word (32 ∷ [])) (text_at (32 ∷ [])) (Sound-word (32 ∷ []))))

-- ---- moments

abbrev Milliseconds : ℤ → List ℕ → Type 0
Milliseconds = Int 62_167_219_200_000 max_moment 32

in_moment : (z : ℤ) → InInts 62_167_219_200_000 max_moment z → IsTrue (is_moment z)
in_moment (pos n) h = grind (arith, ints, nat_tests)
in_moment (negsuc n) h = grind (arith, ints, nat_tests)

moment_in : (z : ℤ) → IsTrue (is_moment z) → InInts 62_167_219_200_000 max_moment z
moment_in (pos n) t = grind (arith, ints, nat_tests)
moment_in (negsuc n) t = grind (arith, ints, nat_tests)

precision_back : (c : ℕ) → is_precision c ≡ true → precision_letter (precision_of c) ≡ c
precision_back c is = elim (cases_eq c 121) [
  | inl e ↦ at c 121 e refl
  | inr n0 ↦ elim (cases_eq c 109) [
    | inl e ↦ at c 109 e refl
    | inr n1 ↦ elim (cases_eq c 100) [ inl e ↦ at c 100 e refl | inr n2 ↦ at c 116 (last n0 n1 n2) refl ]
  ]
]
  where
    at : (c d : ℕ) → c ≡ d → precision_letter (precision_of d) ≡ d → precision_letter (precision_of c) ≡ c
    at c d e same = subst (λ (x : ℕ). precision_letter (precision_of x) ≡ x) (sym e) same

    last : (c ≡ 121 → ⊥) → (c ≡ 109 → ⊥) → (c ≡ 100 → ⊥) → c ≡ 116
    last n0 n1 n2 = grind (arith, nat_tests, is, n0, n1, n2)

letter_back : (p : Precision) → (is_precision (precision_letter p) ≡ true) × (precision_of (precision_letter p) ≡ p)
letter_back Year = (refl, refl)
letter_back Month = (refl, refl)
letter_back Day = (refl, refl)
letter_back Time = (refl, refl)

abbrev MomentParts : Datum → List ℕ → Type 0
MomentParts = Then (OneByte is_precision) (λ c. Mapped (λ z. datum.Moment z (precision_of c)) Milliseconds)

to_moment : (v : Datum) (w : List ℕ) → MomentParts v w → Contents 109 v w
to_moment v w (c, a, x, (is, a_is), (z, v_is, (within, x_is)), w_is) =
    subst (λ (y : Datum). Contents 109 y w) (sym v_is) (refl, in_moment z within, join w_is a_is x_is ∙ ap (λ (y : ℕ). y ∷ int_text z ++ 32 ∷ []) (sym (precision_back c is)))

from_moment : (v : Datum) (w : List ℕ) → Contents 109 v w → MomentParts v w
from_moment (datum.Moment ms p) w (k, fits, w_is) =
    let (is, back) = letter_back p in
    (precision_letter p, precision_letter p ∷ [], int_text ms ++ 32 ∷ [], (is, refl), (ms, ap (λ (q : Precision). datum.Moment ms q) (sym back), (moment_in ms fits, refl)), w_is)
from_moment datum.Empty w (k, fits, w_is) = absurd (omega (arith, k))
from_moment (datum.Int n) w (k, fits, w_is) = absurd (omega (arith, k))
from_moment (datum.Bool b) w (k, fits, w_is) = absurd (omega (arith, k))
from_moment (datum.Text t) w (k, fits, w_is) = absurd (omega (arith, k))
from_moment (datum.Object o) w (k, fits, w_is) = absurd fits

sound_moment : Sound (Contents 109) moment_at
unfolding moment_at
sound_moment = Sound-same MomentParts (Contents 109) moment_at to_moment from_moment
    (Sound-then (OneByte is_precision) (λ c. Mapped (λ z. datum.Moment z (precision_of c)) Milliseconds) (byte_if is_precision) (λ c. mapped (λ z. datum.Moment z (precision_of c)) (int_to 62_167_219_200_000 max_moment 32)) (sound_byte is_precision 121 refl)
    (λ c w s. Sound-mapped (λ z. datum.Moment z (precision_of c)) Milliseconds (int_to 62_167_219_200_000 max_moment 32) (Sound-int 62_167_219_200_000 max_moment 32 (omega arith) (omega arith) (omega arith) no_space)))

-- ---- texts

abbrev Hex32 : List ℕ → List ℕ → Type 0
Hex32 = Marked_text 32 refl

to_string : (v : Datum) (w : List ℕ) → Mapped (λ t. datum.Text t) Hex32 v w → Contents 116 v w
to_string v w (t, v_is, (fits, w_is)) = subst (λ (y : Datum). Contents 116 y w) (sym v_is) (refl, fits, w_is)

from_string : (v : Datum) (w : List ℕ) → Contents 116 v w → Mapped (λ t. datum.Text t) Hex32 v w
from_string (datum.Text t) w (k, fits, w_is) = (t, refl, (fits, w_is))
from_string datum.Empty w (k, fits, w_is) = absurd (omega (arith, k))
from_string (datum.Int n) w (k, fits, w_is) = absurd (omega (arith, k))
from_string (datum.Bool b) w (k, fits, w_is) = absurd (omega (arith, k))
from_string (datum.Moment ms precision) w (k, fits, w_is) = absurd (omega (arith, k))
from_string (datum.Object o) w (k, fits, w_is) = absurd fits

sound_string : Sound (Contents 116) string_at
unfolding string_at
sound_string = Sound-same (Mapped (λ t. datum.Text t) Hex32) (Contents 116) string_at to_string from_string (Sound-mapped (λ t. datum.Text t) Hex32 (hex_to 32) (Sound-text 32 refl))

-- ---- a kind and its contents

sound_contents : (c : ℕ) → is_kind c ≡ true → Sound (Contents c) (contents_at c)
unfolding contents_at
sound_contents c is = elim (cases_eq c 101) [
  | inl e ↦ at 101 (sym e) sound_nothing
  | inr n0 ↦ elim (cases_eq c 105) [
    | inl e ↦ at 105 (sym e) sound_integer
    | inr n1 ↦ elim (cases_eq c 98) [ inl e ↦ at 98 (sym e) sound_boolean | inr n2 ↦ elim (cases_eq c 109) [ inl e ↦ at 109 (sym e) sound_moment | inr n3 ↦ at 116 (sym (last n0 n1 n2 n3)) sound_string ] ]
  ]
]
  where
    at : (q : ℕ) → q ≡ c → Sound (Contents q) (contents_at q) → Sound (Contents c) (contents_at c)
    at q e s = subst (λ (x : ℕ). Sound (Contents x) (contents_at x)) e s

    last : (c ≡ 101 → ⊥) → (c ≡ 105 → ⊥) → (c ≡ 98 → ⊥) → (c ≡ 109 → ⊥) → c ≡ 116
    last n0 n1 n2 n3 = grind (arith, nat_tests, is, n0, n1, n2, n3)

abbrev pub Value : Datum → List ℕ → Type 0
Value = IsText (λ v. value_text v ++ 32 ∷ []) ValueFits

-- a value that fits is spelled by its kind and its contents
spelled : (v : Datum) → ValueFits v → (value_text v ++ 32 ∷ [] ≡ letter v ∷ contents v ++ 32 ∷ []) × (is_kind (letter v) ≡ true)
spelled datum.Empty fits = (refl, refl)
spelled (datum.Int n) fits = (refl, refl)
spelled (datum.Bool b) fits = (refl, refl)
spelled (datum.Moment ms precision) fits = (refl, refl)
spelled (datum.Text t) fits = (refl, refl)
spelled (datum.Object o) fits = absurd fits

parts_value : (v : Datum) (w : List ℕ) → Then (OneByte is_kind) Contents v w → Value v w
parts_value v w (c, a, u, (is, a_is), (c_is, fits, u_is), w_is) =
    let (all, kind) = spelled v fits in
    (fits, join w_is (a_is ∙ ap (λ (b : ℕ). b ∷ []) c_is) u_is ∙ sym all)

value_parts : (v : Datum) (w : List ℕ) → Value v w → Then (OneByte is_kind) Contents v w
value_parts v w (fits, w_is) =
    let (all, kind) = spelled v fits in
    (letter v, letter v ∷ [], contents v ++ 32 ∷ [], (kind, refl), (refl, fits, refl), w_is ∙ all)

pub Sound-value : Sound Value value_at
unfolding value_at
Sound-value = Sound-same (Then (OneByte is_kind) Contents) Value value_at parts_value value_parts (Sound-then (OneByte is_kind) Contents (byte_if is_kind) contents_at (sound_byte is_kind 101 refl) (λ c w s. sound_contents c s.0))
