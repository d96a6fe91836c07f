-- The reading of groups that files are given a meaning by gives just the batches that bytes spell.
use Rattle.std.proofs.Common.{◌≡◌, refl, inl, inr, ℕ, ◌-◌, ◌%◌, ◌^◌, ◌<◌, ◌≤◌, Bool, true, false, ◌&&◌, ◌||◌, ◌==◌, nat_lt, nat_le, if◌then◌else◌, List, [], ◌∷◌, ◌++◌, length, Option, Some, None, sym, ◌∙◌, ap, subst, arith, le-leb}
use Rattle.std.proofs.lemmas.List.{append-nil}
use Rattle.std.proofs.lemmas.Bool.{cases_eq}
use Rattle.std.proofs.lemmas.Bool.Decides.{nat_tests}
use Rattle.std.proofs.lemmas.Str.{is_utf8-from_IsUtf8, IsUtf8-from_is_utf8}
use Rattle.std.specs.Int.{w64, bytes_high_first, cast_signed, cast_unsigned}
use Rattle.std.specs.Str.{IsUtf8, is_utf8}
use Rattle.gd_base.specs.declared.datum.Precision.{Precision}
use Rattle.gd_base.specs.declared.datum.Precision.TheVariants.{Year, Month, Day, Time}
use Rattle.gd_base.specs.declared.datum.Datum.{Datum}
use Rattle.gd_base.specs.declared.datum.Datum.TheVariants as datum
use Rattle.gd_base.specs.Order.{precision_index}
use Rattle.gd_prim.specs.declared.Primitive.{Primitive}
use Rattle.gd_prim.specs.declared.Batch.{Batch}
use Rattle.gd_prim.specs.WellFormed.{max_moment, is_moment}
use Rattle.gd_grammar.specs.Maybe.{◌>>=◌}
use Rattle.gd_grammar.specs.Grammar.{IsText}
use Rattle.gd_grammar.proofs.Scans.{Then, Only}
use Rattle.gd_bytes.specs.Group as meant
use Rattle.gd_grammar.specs.Options.{Reads}
use Rattle.gd_grammar.specs.Options as options
use Rattle.gd_bytes.specs.Group.{primitive_bytes, PrimitiveFits, batch_bytes, BatchFits, spelling, Fits, group_of, whole}
use Rattle.gd_codec.specs.Groups.{flag_at}
use Rattle.gd_grammar.proofs.Exact.{Mapped, join}
use Rattle.gd_grammar.proofs.Ranges.{InRange}
use Rattle.gd_grammar.proofs.Options.{AreBytes, Means, Means-then, Means-only, Means-same, Means-mapped, Where, Means-where, Unless, Means-unless, Taken, Means-taken, OneOf, Means-u8, Means-u16, Means-u32, Means-u64, ItemsOf, Means-many}
use Rattle.gd_codec.proofs.Values as values
use Rattle.gd_codec.proofs.Primitives as prims
use Rattle.gd_codec.proofs.Batches as batches

-- ---- tests

and_parts : (a b : Bool) → (a && b) ≡ true → (a ≡ true) × (b ≡ true)
and_parts true b is = (refl, is)
and_parts false b is = cc

and_both : (a b : Bool) → a ≡ true → b ≡ true → (a && b) ≡ true
and_both a b p q = ap (λ (t : Bool). t && b) p ∙ q

or_parts : (a b : Bool) → (a || b) ≡ false → (a ≡ false) × (b ≡ false)
or_parts true b is = cc
or_parts false b is = (refl, is)

or_both : (a b : Bool) → a ≡ false → b ≡ false → (a || b) ≡ false
or_both a b p q = ap (λ (t : Bool). t || b) p ∙ q

le_of : (a b : ℕ) → nat_le a b ≡ true → a ≤ b
le_of a b is = grind (arith, nat_tests)

not_lt : (a b : ℕ) → nat_lt a b ≡ false → b ≤ a
not_lt a b is = grind (arith, nat_tests)

lt_not : (a b : ℕ) → b ≤ a → nat_lt a b ≡ false
lt_not a b h = grind (arith, nat_tests)

not_le : (a b : ℕ) → nat_le a b ≡ false → b < a
not_le a b is = grind (arith, nat_tests)

le_not : (a b : ℕ) → b < a → nat_le a b ≡ false
le_not a b h = grind (arith, nat_tests)

not_zero : (n : ℕ) → (n == 0) ≡ false → 0 < n
not_zero n is = grind (arith, nat_tests)

zero_not : (n : ℕ) → 0 < n → (n == 0) ≡ false
zero_not n h = grind (arith, nat_tests)

-- ---- texts, references and names

abbrev is_text : List ℕ → Bool
is_text t = nat_le (length t) 4096 && is_utf8 t

abbrev Checked : ℕ → List ℕ → List ℕ → Type 0
Checked n = Then (Taken n) (λ t. Where (is_text t) (Only t))

abbrev U16 : ℕ → List ℕ → Type 0
U16 = InRange 0 (2 ^ 16 - 1) 2

to_text : (t w : List ℕ) → Then U16 Checked t w → values.Text t w
to_text t w (n, v, u, (low, high, v_is), (x, a, b, (long, a_is), (passes, (same, none)), u_is), w_is) =
    let (short, utf8) = and_parts (nat_le (length x) 4096) (is_utf8 x) passes in
    let size : length t ≡ n = ap length same ∙ long in (
      (le_of (length t) 4096 (subst (λ (l : List ℕ). nat_le (length l) 4096 ≡ true) (sym same) short), subst IsUtf8 (sym same) (IsUtf8-from_is_utf8 x utf8)),
      join w_is (v_is ∙ ap (λ (k : ℕ). bytes_high_first 2 k) (sym size)) (u_is ∙ ap (λ (l : List ℕ). a ++ l) none ∙ append-nil a ∙ a_is ∙ sym same),
    )

from_text : (t w : List ℕ) → values.Text t w → Then U16 Checked t w
from_text t w ((short, utf8), w_is) = (
  length t,
  bytes_high_first 2 (length t),
  t,
  (omega arith, omega (arith, short), refl),
  (t, t, [], (refl, refl), (and_both (nat_le (length t) 4096) (is_utf8 t) (le-leb (length t) 4096 short) (is_utf8-from_IsUtf8 t utf8), (refl, refl)), sym (append-nil t)),
  w_is,
)

means_text : Means values.Text meant.text_at
means_text = Means-same (Then U16 Checked) values.Text meant.text_at to_text from_text
    (Means-then U16 Checked options.u16_at (λ n bytes. options.bytes_at n bytes >>= λ t. if is_text t.0 then Some t else None) Means-u16
    (λ n. Means-then (Taken n) (λ t. Where (is_text t) (Only t)) (options.bytes_at n) (λ t bytes. if is_text t then Some (t, bytes) else None) (Means-taken n) (λ t. Means-where (is_text t) (Only t) (λ bytes. Some (t, bytes)) (Means-only t))))

means_reference : (present : Bool) → Means (values.Reference present) (meant.reference_at present)
means_reference false = Means-same (Only None) (values.Reference false) (meant.reference_at false) (λ r w (same, none). subst (λ (x : Option ℕ). values.Reference false x w) (sym same) (refl, tt, none)) values.no_reference (Means-only None)
means_reference true = Means-same values.Place (values.Reference true) (meant.reference_at true) values.place_reference values.reference_place (Means-mapped (λ p. Some p) (InRange 0 (2 ^ 32 - 1) 4) options.u32_at Means-u32)

means_name : (present : Bool) → Means (values.Name present) (meant.name_at present)
means_name false = Means-same (Only None) (values.Name false) (meant.name_at false) (λ n w (same, none). subst (λ (x : Option (List ℕ)). values.Name false x w) (sym same) (refl, tt, none)) values.no_name (Means-only None)
means_name true = Means-same values.Given (values.Name true) (meant.name_at true) values.given_name values.name_given (Means-mapped (λ t. Some t) values.Text meant.text_at means_text)

-- ---- values

-- what stands for a value, where it does
abbrev Stands : {A B : Type 0} → (ℕ → Option B) → (B → A → List ℕ → Type 0) → ℕ → A → List ℕ → Type 0
Stands {A} {B} f spells k a w = (b : B) × (f k ≡ Some b) × spells b a w

means_stands : {A B : Type 0} (f : ℕ → Option B) (spells : B → A → List ℕ → Type 0) (read : B → List ℕ → Reads A) → ((b : B) → Means (spells b) (read b)) → (k : ℕ) → Means (Stands f spells k) (λ bytes. f k >>= λ b. read b bytes)
means_stands {A} {B} f spells read means k = by (f k) refl
  where
    by : (o : Option B) → f k ≡ o → Means (Stands f spells k) (λ bytes. f k >>= λ b. read b bytes)
    by (Some b) e = subst (λ (o : Option B). Means (λ a w. (x : B) × (o ≡ Some x) × spells x a w) (λ bytes. o >>= λ x. read x bytes)) (sym e) (record {
      found = λ bytes a rest are is. let (w, s, split) = (means b).found bytes a rest are is in (w, (b, refl, s), split);
      all = λ a w rest (x, same, s). (means b).all a w rest (let b_is : b ≡ x = cc in subst (λ (y : B). spells y a w) (sym b_is) s);
    })
    by None e = subst (λ (o : Option B). Means (λ a w. (x : B) × (o ≡ Some x) × spells x a w) (λ bytes. o >>= λ x. read x bytes)) (sym e) (record { found = λ bytes a rest are is. cc; all = λ a w rest (x, same, s). cc })

-- truth values

abbrev Truth : Datum → List ℕ → Type 0
Truth = Then OneOf (Stands meant.boolean_of (λ b. Only (datum.Bool b)))

boolean_cases : (k : ℕ) (b : Bool) → meant.boolean_of k ≡ Some b → k ≡ (if b then 1 else 0)
boolean_cases k true is = grind (arith, nat_tests)
boolean_cases k false is = grind (arith, nat_tests)

truth_contents : (v : Datum) (w : List ℕ) → Truth v w → values.Contents 3 v w
truth_contents v w (k, x, u, (small, x_is), (b, b_is, (v_is, none)), w_is) =
    subst (λ (y : Datum). values.Contents 3 y w) (sym v_is) (refl, tt, w_is ∙ ap (λ (l : List ℕ). x ++ l) none ∙ append-nil x ∙ x_is ∙ ap (λ (y : ℕ). y ∷ []) (boolean_cases k b b_is))

contents_truth : (v : Datum) (w : List ℕ) → values.Contents 3 v w → Truth v w
contents_truth (datum.Bool true) w (k, fits, w_is) = (1, 1 ∷ [], [], (omega arith, refl), (true, refl, (refl, refl)), w_is)
contents_truth (datum.Bool false) w (k, fits, w_is) = (0, 0 ∷ [], [], (omega arith, refl), (false, refl, (refl, refl)), w_is)
contents_truth datum.Empty w (k, fits, w_is) = absurd (omega (arith, k))
contents_truth (datum.Text t) w (k, fits, w_is) = absurd (omega (arith, k))
contents_truth (datum.Int n) w (k, fits, w_is) = absurd (omega (arith, k))
contents_truth (datum.Moment ms precision) w (k, fits, w_is) = absurd (omega (arith, k))
contents_truth (datum.Object o) w (k, fits, w_is) = absurd fits

-- moments

abbrev In_range : Precision → ℕ → Datum → List ℕ → Type 0
In_range p n = Where (is_moment (cast_signed w64 n)) (Only (datum.Moment (cast_signed w64 n) p))

abbrev Given_moment : Datum → List ℕ → Type 0
Given_moment = Then OneOf (Stands meant.precision_of (λ p. Then values.Bits (In_range p)))

precision_cases : (k : ℕ) (p : Precision) → meant.precision_of k ≡ Some p → k ≡ precision_index p
precision_cases k Year is = grind (arith, nat_tests)
precision_cases k Month is = grind (arith, nat_tests)
precision_cases k Day is = grind (arith, nat_tests)
precision_cases k Time is = grind (arith, nat_tests)

place_precision : (p : Precision) → (meant.precision_of (precision_index p) ≡ Some p) × (precision_index p < 256)
place_precision Year = (refl, omega arith)
place_precision Month = (refl, omega arith)
place_precision Day = (refl, omega arith)
place_precision Time = (refl, omega arith)

moment_contents : (v : Datum) (w : List ℕ) → Given_moment v w → values.Contents 4 v w
moment_contents v w (k, x, u, (small, x_is), (p, p_is, (n, a, b, (low, high, a_is), (within, (v_is, none)), u_is)), w_is) =
    let back = values.bits_back n high in
    subst (λ (y : Datum). values.Contents 4 y w) (sym v_is)
    (refl, within, join w_is (x_is ∙ ap (λ (y : ℕ). y ∷ []) (precision_cases k p p_is)) (u_is ∙ ap (λ (l : List ℕ). a ++ l) none ∙ append-nil a ∙ a_is ∙ ap (λ (y : ℕ). bytes_high_first 8 y) (sym back)))

contents_moment : (v : Datum) (w : List ℕ) → values.Contents 4 v w → Given_moment v w
contents_moment (datum.Moment ms p) w (k, fits, w_is) =
    let (within, back) = values.in_moment ms fits in
    let (p_is, small) = place_precision p in
    let n = cast_unsigned w64 ms in (
      precision_index p,
      precision_index p ∷ [],
      bytes_high_first 8 n,
      (small, refl),
      (p, p_is, (n, bytes_high_first 8 n, [], (omega arith, values.within_bits ms back, refl), (ap is_moment back ∙ fits, (ap (λ (x : _). datum.Moment x p) (sym back), refl)), sym (append-nil (bytes_high_first 8 n)))),
      w_is,
    )
contents_moment datum.Empty w (k, fits, w_is) = absurd (omega (arith, k))
contents_moment (datum.Text t) w (k, fits, w_is) = absurd (omega (arith, k))
contents_moment (datum.Int n) w (k, fits, w_is) = absurd (omega (arith, k))
contents_moment (datum.Bool b) w (k, fits, w_is) = absurd (omega (arith, k))
contents_moment (datum.Object o) w (k, fits, w_is) = absurd fits

means_moment : Means Given_moment meant.moment_at
means_moment = Means-then OneOf (Stands meant.precision_of (λ p. Then values.Bits (In_range p))) options.u8_at
    (λ k bytes. meant.precision_of k >>= λ p. options.u64_at bytes >>= λ n. if is_moment (cast_signed w64 n.0) then Some (datum.Moment (cast_signed w64 n.0) p, n.1) else None) Means-u8
    (means_stands meant.precision_of (λ p. Then values.Bits (In_range p)) (λ p bytes. options.u64_at bytes >>= λ n. if is_moment (cast_signed w64 n.0) then Some (datum.Moment (cast_signed w64 n.0) p, n.1) else None)
    (λ p. Means-then values.Bits (In_range p) options.u64_at (λ n bytes. if is_moment (cast_signed w64 n) then Some (datum.Moment (cast_signed w64 n) p, bytes) else None) Means-u64
    (λ n. Means-where (is_moment (cast_signed w64 n)) (Only (datum.Moment (cast_signed w64 n) p)) (λ bytes. Some (datum.Moment (cast_signed w64 n) p, bytes)) (Means-only (datum.Moment (cast_signed w64 n) p)))))

contents_0 : Means (values.Contents 0) (meant.contents_at 0)
contents_0 = Means-same (Only datum.Empty) (values.Contents 0) (meant.contents_at 0) values.only_empty values.empty_only (Means-only datum.Empty)

contents_1 : Means (values.Contents 1) (meant.contents_at 1)
contents_1 = Means-same values.TextValue (values.Contents 1) (meant.contents_at 1) values.value_text values.text_value (Means-mapped (λ t. datum.Text t) values.Text meant.text_at means_text)

contents_2 : Means (values.Contents 2) (meant.contents_at 2)
contents_2 = Means-same values.IntValue (values.Contents 2) (meant.contents_at 2) values.value_int values.int_value (Means-mapped (λ n. datum.Int (cast_signed w64 n)) values.Bits options.u64_at Means-u64)

contents_3 : Means (values.Contents 3) (meant.contents_at 3)
contents_3 = Means-same Truth (values.Contents 3) (meant.contents_at 3) truth_contents contents_truth
    (Means-then OneOf (Stands meant.boolean_of (λ b. Only (datum.Bool b))) options.u8_at (λ k bytes. meant.boolean_of k >>= λ b. Some (datum.Bool b, bytes)) Means-u8
    (means_stands meant.boolean_of (λ b. Only (datum.Bool b)) (λ b bytes. Some (datum.Bool b, bytes)) (λ b. Means-only (datum.Bool b))))

contents_4 : Means (values.Contents 4) (meant.contents_at 4)
contents_4 = Means-same Given_moment (values.Contents 4) (meant.contents_at 4) moment_contents contents_moment means_moment

-- no value is of a further kind
further : (k : ℕ) → 4 < k → (bytes : List ℕ) → meant.contents_at k bytes ≡ None
further k h bytes = grind (arith, nat_tests)

no_further : (k : ℕ) → 4 < k → (v : Datum) (w : List ℕ) → values.Contents k v w → ⊥
no_further k h v w (kind_is, fits, w_is) = let (all, few, byte) = values.spelled v fits in omega (arith, few, kind_is)

means_contents : (k : ℕ) → Means (values.Contents k) (meant.contents_at k)
means_contents k = elim (cases_eq k 0) [
  | inl e ↦ at 0 (sym e) contents_0
  | inr n0 ↦ elim (cases_eq k 1) [
    | inl e ↦ at 1 (sym e) contents_1
    | inr n1 ↦ elim (cases_eq k 2) [
      | inl e ↦ at 2 (sym e) contents_2
      | inr n2 ↦ elim (cases_eq k 3) [
        | inl e ↦ at 3 (sym e) contents_3
        | inr n3 ↦ elim (cases_eq k 4) [ inl e ↦ at 4 (sym e) contents_4 | inr n4 ↦ none (omega (arith, n0, n1, n2, n3, n4)) ]
      ]
    ]
  ]
]
  where
    at : (q : ℕ) → q ≡ k → Means (values.Contents q) (meant.contents_at q) → Means (values.Contents k) (meant.contents_at k)
    at q e s = subst (λ (x : ℕ). Means (values.Contents x) (meant.contents_at x)) e s

    none : 4 < k → Means (values.Contents k) (meant.contents_at k)
    none h = record { found = λ bytes a rest are is. let nothing = further k h bytes in cc; all = λ a w rest s. absurd (no_further k h a w s) }

to_value : (v : Datum) (w : List ℕ) → Then OneOf values.Contents v w → values.Value v w
to_value v w (k, x, u, (small, x_is), (k_is, fits, u_is), w_is) = let (all, few, byte) = values.spelled v fits in (fits, join w_is (x_is ∙ ap (λ (b : ℕ). b ∷ []) (sym k_is)) u_is ∙ sym all)

from_value : (v : Datum) (w : List ℕ) → values.Value v w → Then OneOf values.Contents v w
from_value v w (fits, w_is) = let (all, few, byte) = values.spelled v fits in (values.kind v, values.kind v ∷ [], values.contents v, (omega (arith, few), refl), (refl, fits, refl), w_is ∙ all)

means_value : Means values.Value meant.value_at
means_value = Means-same (Then OneOf values.Contents) values.Value meant.value_at to_value from_value (Means-then OneOf values.Contents options.u8_at meant.contents_at Means-u8 means_contents)

-- ---- primitives

module _ (m f : ℕ) where
  abbrev Ref : Type 0
  Ref = Option ℕ

  abbrev named_at : Ref → Ref → Ref → Ref → Ref → Ref → Datum → List ℕ → Reads Primitive
  named_at l r t s p g v bytes = meant.name_at (flag_at f 5) bytes >>= λ n. Some (prims.made m f l r t s p g v n.0, n.1)

  named : (l r t s p g : Ref) (v : Datum) → Means (prims.Named m f l r t s p g v) (named_at l r t s p g v)
  named l r t s p g v = Means-then (values.Name (flag_at f 5)) (λ n. Only (prims.made m f l r t s p g v n)) (meant.name_at (flag_at f 5)) (λ n bytes. Some (prims.made m f l r t s p g v n, bytes)) (means_name (flag_at f 5)) (λ n. Means-only (prims.made m f l r t s p g v n))

  abbrev valued_at : Ref → Ref → Ref → Ref → Ref → Ref → List ℕ → Reads Primitive
  valued_at l r t s p g bytes = meant.value_at bytes >>= λ v. named_at l r t s p g v.0 v.1

  valued : (l r t s p g : Ref) → Means (prims.Valued m f l r t s p g) (valued_at l r t s p g)
  valued l r t s p g = Means-then values.Value (prims.Named m f l r t s p g) meant.value_at (named_at l r t s p g) means_value (λ v. named l r t s p g v)

  abbrev lang_at : Ref → Ref → Ref → Ref → Ref → List ℕ → Reads Primitive
  lang_at l r t s p bytes = meant.reference_at (flag_at f 7) bytes >>= λ g. valued_at l r t s p g.0 g.1

  lang : (l r t s p : Ref) → Means (prims.Lang m f l r t s p) (lang_at l r t s p)
  lang l r t s p = Means-then (values.Reference (flag_at f 7)) (prims.Valued m f l r t s p) (meant.reference_at (flag_at f 7)) (valued_at l r t s p) (means_reference (flag_at f 7)) (λ g. valued l r t s p g)

  abbrev previous_at : Ref → Ref → Ref → Ref → List ℕ → Reads Primitive
  previous_at l r t s bytes = meant.reference_at (flag_at f 4) bytes >>= λ p. lang_at l r t s p.0 p.1

  previous : (l r t s : Ref) → Means (prims.Previous m f l r t s) (previous_at l r t s)
  previous l r t s = Means-then (values.Reference (flag_at f 4)) (prims.Lang m f l r t s) (meant.reference_at (flag_at f 4)) (lang_at l r t s) (means_reference (flag_at f 4)) (λ p. lang l r t s p)

  abbrev scope_at : Ref → Ref → Ref → List ℕ → Reads Primitive
  scope_at l r t bytes = meant.reference_at (flag_at f 3) bytes >>= λ s. previous_at l r t s.0 s.1

  scope : (l r t : Ref) → Means (prims.Scope m f l r t) (scope_at l r t)
  scope l r t = Means-then (values.Reference (flag_at f 3)) (prims.Previous m f l r t) (meant.reference_at (flag_at f 3)) (previous_at l r t) (means_reference (flag_at f 3)) (λ s. previous l r t s)

  abbrev typ_at : Ref → Ref → List ℕ → Reads Primitive
  typ_at l r bytes = meant.reference_at (flag_at f 2) bytes >>= λ t. scope_at l r t.0 t.1

  typ : (l r : Ref) → Means (prims.Typ m f l r) (typ_at l r)
  typ l r = Means-then (values.Reference (flag_at f 2)) (prims.Scope m f l r) (meant.reference_at (flag_at f 2)) (scope_at l r) (means_reference (flag_at f 2)) (λ t. scope l r t)

  abbrev right_at : Ref → List ℕ → Reads Primitive
  right_at l bytes = meant.reference_at (flag_at f 1) bytes >>= λ r. typ_at l r.0 r.1

  right : (l : Ref) → Means (prims.Right m f l) (right_at l)
  right l = Means-then (values.Reference (flag_at f 1)) (prims.Typ m f l) (meant.reference_at (flag_at f 1)) (typ_at l) (means_reference (flag_at f 1)) (λ r. typ l r)

  abbrev left_at : List ℕ → Reads Primitive
  left_at bytes = meant.reference_at (flag_at f 0) bytes >>= λ l. right_at l.0 l.1

  left : Means (prims.Left m f) left_at
  left = Means-then (values.Reference (flag_at f 0)) (prims.Right m f) (meant.reference_at (flag_at f 0)) right_at (means_reference (flag_at f 0)) (λ l. right l)

abbrev Flagged : ℕ → Primitive → List ℕ → Type 0
Flagged m = Then OneOf (prims.Left m)

to_parts : (m : ℕ) (x : Primitive) (w : List ℕ) → Flagged m x w → prims.Parts m x w
to_parts m x w (f, v, u, (small, v_is), s, w_is) =
    let byte : f ≡ f % 256 = omega arith in
    (f, bytes_high_first 1 f, u, (omega arith, omega arith, refl), s, w_is ∙ ap (λ (l : List ℕ). l ++ u) v_is ∙ ap (λ (b : ℕ). b ∷ u) byte)

from_parts : (m : ℕ) (x : Primitive) (w : List ℕ) → prims.Parts m x w → Flagged m x w
from_parts m x w (f, v, u, (low, high, v_is), s, w_is) =
    let byte : f % 256 ≡ f = omega (arith, high) in
    (f, f ∷ [], u, (omega (arith, high), refl), s, w_is ∙ ap (λ (l : List ℕ). l ++ u) v_is ∙ ap (λ (b : ℕ). b ∷ u) byte)

means_primitive : (m : ℕ) → Means (prims.Spelled m) (meant.primitive_at m)
means_primitive m =
    Means-same (prims.Parts m) (prims.Spelled m) (meant.primitive_at m) (prims.to_spelled m) (prims.from_spelled m)
    (Means-same (Flagged m) (prims.Parts m) (meant.primitive_at m) (to_parts m) (from_parts m)
    (Means-then OneOf (prims.Left m) options.u8_at (λ f bytes. left_at m f bytes) Means-u8 (λ f. left m f)))

-- ---- batches

abbrev Bounded : ℕ → ℕ → Batch → List ℕ → Type 0
Bounded m n = Unless (nat_lt max_moment m || nat_lt 4096 n) (Mapped (batches.made m) (ItemsOf primitive_bytes (PrimitiveFits m) n))

abbrev Counted : ℕ → Batch → List ℕ → Type 0
Counted m = Then U16 (Bounded m)

abbrev prims_at : ℕ → ℕ → List ℕ → Reads Batch
prims_at m n bytes = options.many_at (meant.primitive_at m) n bytes >>= λ ps. Some (batches.made m ps.0, ps.1)

to_batch : (b : Batch) (w : List ℕ) → Then values.Bits Counted b w → batches.Parts b w
to_batch b w (m, v, u, (m_low, m_high, v_is), (n, x, y, (n_low, n_high, x_is), (fails, s), u_is), w_is) =
    let (few, small) = or_parts (nat_lt max_moment m) (nat_lt 4096 n) fails in
    (m, v, u, (omega arith, not_lt max_moment m few, v_is), (n, x, y, (omega arith, not_lt 4096 n small, x_is), s, u_is), w_is)

from_batch : (b : Batch) (w : List ℕ) → batches.Parts b w → Then values.Bits Counted b w
from_batch b w (m, v, u, (m_low, m_high, v_is), (n, x, y, (n_low, n_high, x_is), s, u_is), w_is) =
    (m, v, u, (omega arith, omega (arith, m_high), v_is), (n, x, y, (omega arith, omega (arith, n_high), x_is), (or_both (nat_lt max_moment m) (nat_lt 4096 n) (lt_not max_moment m m_high) (lt_not 4096 n n_high), s), u_is), w_is)

counted : (m : ℕ) → Means (Counted m) (λ bytes. options.u16_at bytes >>= λ n. if nat_lt max_moment m || nat_lt 4096 n.0 then None else prims_at m n.0 n.1)
counted m = Means-then U16 (Bounded m) options.u16_at (λ n bytes. if nat_lt max_moment m || nat_lt 4096 n then None else prims_at m n bytes) Means-u16
    (λ n. Means-unless (nat_lt max_moment m || nat_lt 4096 n) (Mapped (batches.made m) (ItemsOf primitive_bytes (PrimitiveFits m) n)) (prims_at m n)
    (Means-mapped (batches.made m) (ItemsOf primitive_bytes (PrimitiveFits m) n) (options.many_at (meant.primitive_at m) n) (Means-many primitive_bytes (PrimitiveFits m) (meant.primitive_at m) (means_primitive m) n)))

means_batch : Means (IsText batch_bytes BatchFits) meant.batch_at
means_batch = Means-same batches.Parts (IsText batch_bytes BatchFits) meant.batch_at batches.to_spelled batches.from_spelled
    (Means-same (Then values.Bits Counted) batches.Parts meant.batch_at to_batch from_batch
    (Means-then values.Bits Counted options.u64_at (λ m bytes. options.u16_at bytes >>= λ n. if nat_lt max_moment m || nat_lt 4096 n.0 then None else prims_at m n.0 n.1) Means-u64 (λ m. counted m)))

-- ---- groups

abbrev Several : ℕ → List Batch → List ℕ → Type 0
Several n = Unless (n == 0 || nat_lt 256 n) (ItemsOf batch_bytes BatchFits n)

abbrev several_at : List ℕ → Reads (List Batch)
several_at bytes = options.u16_at bytes >>= λ n. if n.0 == 0 || nat_lt 256 n.0 then None else options.many_at meant.batch_at n.0 n.1

to_group : (bs : List Batch) (w : List ℕ) → Then U16 Several bs w → IsText spelling Fits bs w
to_group bs w (n, v, u, (low, high, v_is), (fails, s), w_is) =
    let (some, few) = or_parts (n == 0) (nat_lt 256 n) fails in
    let least = not_zero n some in
    batches.to_group bs w (n, v, u, (omega (arith, least), not_lt 256 n few, v_is), s, w_is)

from_group : (bs : List Batch) (w : List ℕ) → IsText spelling Fits bs w → Then U16 Several bs w
from_group bs w t =
    let (n, v, u, (low, high, v_is), s, w_is) = batches.from_group bs w t in
    (n, v, u, (omega arith, omega (arith, high), v_is), (or_both (n == 0) (nat_lt 256 n) (zero_not n (omega (arith, low))) (lt_not 256 n high), s), w_is)

means_several : Means (IsText spelling Fits) several_at
means_several = Means-same (Then U16 Several) (IsText spelling Fits) several_at to_group from_group
    (Means-then U16 Several options.u16_at (λ n bytes. if n == 0 || nat_lt 256 n then None else options.many_at meant.batch_at n bytes) Means-u16
    (λ n. Means-unless (n == 0 || nat_lt 256 n) (ItemsOf batch_bytes BatchFits n) (options.many_at meant.batch_at n) (Means-many batch_bytes BatchFits meant.batch_at means_batch n)))

-- the reading of all the bytes is the same, and then nothing may follow
whole_is : (bytes : List ℕ) → group_of bytes ≡ (several_at bytes >>= whole)
whole_is bytes = by (options.u16_at bytes)
  where
    test : (n : ℕ) (rest : List ℕ) (b : Bool) → (if b then None else (options.many_at meant.batch_at n rest >>= whole)) ≡ ((if b then None else options.many_at meant.batch_at n rest) >>= whole)
    test n rest true = refl
    test n rest false = refl

    by : (r : Reads ℕ) → (r >>= λ n. if n.0 == 0 || nat_lt 256 n.0 then None else (options.many_at meant.batch_at n.0 n.1 >>= whole)) ≡ ((r >>= λ n. if n.0 == 0 || nat_lt 256 n.0 then None else options.many_at meant.batch_at n.0 n.1) >>= whole)
    by None = refl
    by (Some (n, rest)) = test n rest (n == 0 || nat_lt 256 n)

-- Bytes that spell batches have them as their meaning.
pub spelled_meant : (bs : List Batch) (bytes : List ℕ) → IsText spelling Fits bs bytes → group_of bytes ≡ Some bs
spelled_meant bs bytes s = whole_is bytes ∙ ap (λ (r : Reads (List Batch)). r >>= whole) (ap several_at (sym (append-nil bytes)) ∙ means_several.all bs bytes [] s)

none_some : (bs : List Batch) → ◌≡◌ {A = Option (List Batch)} None (Some bs) → ⊥
none_some bs is = cc

-- behind the batches nothing may follow
more : (cs : List Batch) (b : ℕ) (rest : List ℕ) → whole (cs, b ∷ rest) ≡ None
more cs b rest = ap (λ (t : Bool). if t then Some cs else None) (zero_not (length (b ∷ rest)) (omega arith))

-- What bytes mean is spelled by them.
pub meant_spelled : (bs : List Batch) (bytes : List ℕ) → AreBytes bytes → group_of bytes ≡ Some bs → IsText spelling Fits bs bytes
meant_spelled bs bytes are is = by (several_at bytes) refl (sym (whole_is bytes) ∙ is)
  where
    by : (r : Reads (List Batch)) → several_at bytes ≡ r → (r >>= whole) ≡ Some bs → IsText spelling Fits bs bytes
    by (Some (cs, [])) e same =
        let (w, s, split) = means_several.found bytes cs [] are e in
        let cs_is : cs ≡ bs = cc in
        subst (λ (l : List Batch). IsText spelling Fits l bytes) cs_is (subst (IsText spelling Fits cs) (sym (split ∙ append-nil w)) s)
    by (Some (cs, b ∷ rest)) e same = absurd (none_some bs (sym (more cs b rest) ∙ same))
    by None e same = absurd (none_some bs same)

-- Bytes that spell no batches mean none.
pub not_meant : (bytes : List ℕ) → AreBytes bytes → ((bs : List Batch) → IsText spelling Fits bs bytes → ⊥) → group_of bytes ≡ None
not_meant bytes are none = by (group_of bytes) refl
  where
    by : (o : Option (List Batch)) → group_of bytes ≡ o → group_of bytes ≡ None
    by None e = e
    by (Some bs) e = absurd (none bs (meant_spelled bs bytes are e))
