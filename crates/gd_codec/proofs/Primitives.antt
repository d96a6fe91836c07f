-- Primitives of groups are read exactly.
use Rattle.std.proofs.Common.{◌≡◌, refl, ℕ, ◌+◌, ◌*◌, ◌/◌, ◌%◌, ◌^◌, ◌<◌, ◌≤◌, Bool, true, false, ◌==◌, if◌then◌else◌, List, [], ◌∷◌, ◌++◌, Option, is_some, Ok, sym, ◌∙◌, ap, subst, arith, append_assoc}
use Rattle.std.proofs.lemmas.List.{append-nil}
use Rattle.std.proofs.lemmas.Bool.Decides.{nat_tests}
use Rattle.std.specs.Int.{bytes_high_first}
use Rattle.gd_base.specs.declared.datum.Datum.{Datum}
use Rattle.gd_prim.specs.declared.Primitive.{Primitive}
use Rattle.gd_grammar.specs.Grammar.{Reads, IsText}
use Rattle.gd_grammar.proofs.Scans.{Then, Only, chain}
use Rattle.gd_bytes.specs.Group.{flag, flags, reference_bytes, name_bytes, value_bytes, primitive_bytes, PrimitiveFits}
use Rattle.gd_grammar.specs.Reading.{number_at}
use Rattle.gd_codec.specs.Groups.{up_to, reference_at, name_at, value_at, flag_at, primitive_at}
use Rattle.gd_grammar.proofs.Exact.{Sound, Sound-then, Sound-only, Sound-same, join}
use Rattle.gd_grammar.proofs.Ranges.{InRange, Sound-range}
use Rattle.gd_codec.proofs.Values.{Reference, Sound-reference, Name, Sound-name, Value, Sound-value}

-- ---- the flag byte

abbrev digit : Bool → ℕ
digit b = if b then 1 else 0

flag_is : (worth : ℕ) (b : Bool) → flag worth b ≡ worth * digit b
flag_is worth true = omega arith
flag_is worth false = omega arith

digit_small : (b : Bool) → digit b < 2
digit_small true = omega arith
digit_small false = omega arith

digit_one : (b : Bool) → (digit b == 1) ≡ b
digit_one true = refl
digit_one false = refl

-- the flags, each worth twice the one before
abbrev sum : Bool → Bool → Bool → Bool → Bool → Bool → Bool → Bool → ℕ
sum a b c d e f g h = flag 1 a + flag 2 b + flag 4 c + flag 8 d + flag 16 e + flag 32 f + flag 64 g + flag 128 h

digits : (a b c d e f g h : Bool) → sum a b c d e f g h ≡ digit a + 2 * digit b + 4 * digit c + 8 * digit d + 16 * digit e + 32 * digit f + 64 * digit g + 128 * digit h
digits a b c d e f g h = omega (arith, flag_is 1 a, flag_is 2 b, flag_is 4 c, flag_is 8 d, flag_is 16 e, flag_is 32 f, flag_is 64 g, flag_is 128 h)

record Eight (n : ℕ) (a b c d e f g h : Bool) : Type 0 where
  small : n ≤ 255
  at_0 : flag_at n 0 ≡ a
  at_1 : flag_at n 1 ≡ b
  at_2 : flag_at n 2 ≡ c
  at_3 : flag_at n 3 ≡ d
  at_4 : flag_at n 4 ≡ e
  at_5 : flag_at n 5 ≡ f
  at_6 : flag_at n 6 ≡ g
  at_7 : flag_at n 7 ≡ h

bit : (n i : ℕ) (b : Bool) → n / 2 ^ i % 2 ≡ digit b → flag_at n i ≡ b
bit n i b is = ap (λ (x : ℕ). x == 1) is ∙ digit_one b

number_bits : (n a b c d e f g h : ℕ) → a < 2 → b < 2 → c < 2 → d < 2 → e < 2 → f < 2 → g < 2 → h < 2 → n ≡ a + 2 * b + 4 * c + 8 * d + 16 * e + 32 * f + 64 * g + 128 * h
    → (n ≤ 255) × (n / 1 % 2 ≡ a) × (n / 2 % 2 ≡ b) × (n / 4 % 2 ≡ c) × (n / 8 % 2 ≡ d) × (n / 16 % 2 ≡ e) × (n / 32 % 2 ≡ f) × (n / 64 % 2 ≡ g) × (n / 128 % 2 ≡ h)
number_bits n a b c d e f g h p q r s t u v w is = (omega arith, omega arith, omega arith, omega arith, omega arith, omega arith, omega arith, omega arith, omega arith)

eight : (a b c d e f g h : Bool) → Eight (sum a b c d e f g h) a b c d e f g h
eight a b c d e f g h =
    let n = sum a b c d e f g h in
    let (small, x0, x1, x2, x3, x4, x5, x6, x7) = number_bits n (digit a) (digit b) (digit c) (digit d) (digit e) (digit f) (digit g) (digit h) (digit_small a) (digit_small b) (digit_small c) (digit_small d) (digit_small e) (digit_small f) (digit_small g) (digit_small h) (digits a b c d e f g h) in
    record {
      small = small;
      at_0 = bit n 0 a x0;
      at_1 = bit n 1 b x1;
      at_2 = bit n 2 c x2;
      at_3 = bit n 3 d x3;
      at_4 = bit n 4 e x4;
      at_5 = bit n 5 f x5;
      at_6 = bit n 6 g x6;
      at_7 = bit n 7 h x7;
    }

bit_digit : (n i : ℕ) → digit (flag_at n i) ≡ n / 2 ^ i % 2
bit_digit n i = two (n / 2 ^ i % 2) (omega arith)
  where
    two : (x : ℕ) → x < 2 → (if x == 1 then 1 else 0) ≡ x
    two x h = grind (arith, nat_tests)

number_sum : (n : ℕ) → n ≤ 255 → n / 1 % 2 + 2 * (n / 2 % 2) + 4 * (n / 4 % 2) + 8 * (n / 8 % 2) + 16 * (n / 16 % 2) + 32 * (n / 32 % 2) + 64 * (n / 64 % 2) + 128 * (n / 128 % 2) ≡ n
number_sum n h = omega arith

-- a number is the sum of its flags
sum_back : (n : ℕ) → n ≤ 255 → sum (flag_at n 0) (flag_at n 1) (flag_at n 2) (flag_at n 3) (flag_at n 4) (flag_at n 5) (flag_at n 6) (flag_at n 7) ≡ n
sum_back n h =
    let all = digits (flag_at n 0) (flag_at n 1) (flag_at n 2) (flag_at n 3) (flag_at n 4) (flag_at n 5) (flag_at n 6) (flag_at n 7) in
    let whole = number_sum n h in
    omega (arith, all, whole, bit_digit n 0, bit_digit n 1, bit_digit n 2, bit_digit n 3, bit_digit n 4, bit_digit n 5, bit_digit n 6, bit_digit n 7)

-- ---- the parts of a primitive, one after another

abbrev pub Ref : Type 0
Ref = Option ℕ

abbrev pub made : ℕ → ℕ → Ref → Ref → Ref → Ref → Ref → Ref → Datum → Option (List ℕ) → Primitive
made m f l r t s p g v n = record { left = l; right = r; typ = t; scope = s; value = v; name = n; previous = p; live = flag_at f 6; moment = m; lang = g }

module _ (m f : ℕ) where
  abbrev pub Named : Ref → Ref → Ref → Ref → Ref → Ref → Datum → Primitive → List ℕ → Type 0
  Named l r t s p g v = Then (Name (flag_at f 5)) (λ n. Only (made m f l r t s p g v n))

  abbrev named_at : Ref → Ref → Ref → Ref → Ref → Ref → Datum → List ℕ → Reads Primitive
  named_at l r t s p g v = chain (name_at (flag_at f 5)) (λ n bytes. Ok (made m f l r t s p g v n, bytes))

  named : (l r t s p g : Ref) (v : Datum) → Sound (Named l r t s p g v) (named_at l r t s p g v)
  named l r t s p g v = Sound-then (Name (flag_at f 5)) (λ n. Only (made m f l r t s p g v n)) (name_at (flag_at f 5)) (λ n bytes. Ok (made m f l r t s p g v n, bytes)) (Sound-name (flag_at f 5)) (λ n w x. Sound-only (made m f l r t s p g v n))

  abbrev pub Valued : Ref → Ref → Ref → Ref → Ref → Ref → Primitive → List ℕ → Type 0
  Valued l r t s p g = Then Value (Named l r t s p g)

  abbrev valued_at : Ref → Ref → Ref → Ref → Ref → Ref → List ℕ → Reads Primitive
  valued_at l r t s p g = chain value_at (named_at l r t s p g)

  valued : (l r t s p g : Ref) → Sound (Valued l r t s p g) (valued_at l r t s p g)
  valued l r t s p g = Sound-then Value (Named l r t s p g) value_at (named_at l r t s p g) Sound-value (λ v w x. named l r t s p g v)

  abbrev pub Lang : Ref → Ref → Ref → Ref → Ref → Primitive → List ℕ → Type 0
  Lang l r t s p = Then (Reference (flag_at f 7)) (Valued l r t s p)

  abbrev lang_at : Ref → Ref → Ref → Ref → Ref → List ℕ → Reads Primitive
  lang_at l r t s p = chain (reference_at (flag_at f 7)) (valued_at l r t s p)

  lang : (l r t s p : Ref) → Sound (Lang l r t s p) (lang_at l r t s p)
  lang l r t s p = Sound-then (Reference (flag_at f 7)) (Valued l r t s p) (reference_at (flag_at f 7)) (valued_at l r t s p) (Sound-reference (flag_at f 7)) (λ g w x. valued l r t s p g)

  abbrev pub Previous : Ref → Ref → Ref → Ref → Primitive → List ℕ → Type 0
  Previous l r t s = Then (Reference (flag_at f 4)) (Lang l r t s)

  abbrev previous_at : Ref → Ref → Ref → Ref → List ℕ → Reads Primitive
  previous_at l r t s = chain (reference_at (flag_at f 4)) (lang_at l r t s)

  previous : (l r t s : Ref) → Sound (Previous l r t s) (previous_at l r t s)
  previous l r t s = Sound-then (Reference (flag_at f 4)) (Lang l r t s) (reference_at (flag_at f 4)) (lang_at l r t s) (Sound-reference (flag_at f 4)) (λ p w x. lang l r t s p)

  abbrev pub Scope : Ref → Ref → Ref → Primitive → List ℕ → Type 0
  Scope l r t = Then (Reference (flag_at f 3)) (Previous l r t)

  abbrev scope_at : Ref → Ref → Ref → List ℕ → Reads Primitive
  scope_at l r t = chain (reference_at (flag_at f 3)) (previous_at l r t)

  scope : (l r t : Ref) → Sound (Scope l r t) (scope_at l r t)
  scope l r t = Sound-then (Reference (flag_at f 3)) (Previous l r t) (reference_at (flag_at f 3)) (previous_at l r t) (Sound-reference (flag_at f 3)) (λ s w x. previous l r t s)

  abbrev pub Typ : Ref → Ref → Primitive → List ℕ → Type 0
  Typ l r = Then (Reference (flag_at f 2)) (Scope l r)

  abbrev typ_at : Ref → Ref → List ℕ → Reads Primitive
  typ_at l r = chain (reference_at (flag_at f 2)) (scope_at l r)

  typ : (l r : Ref) → Sound (Typ l r) (typ_at l r)
  typ l r = Sound-then (Reference (flag_at f 2)) (Scope l r) (reference_at (flag_at f 2)) (scope_at l r) (Sound-reference (flag_at f 2)) (λ t w x. scope l r t)

  abbrev pub Right : Ref → Primitive → List ℕ → Type 0
  Right l = Then (Reference (flag_at f 1)) (Typ l)

  abbrev right_at : Ref → List ℕ → Reads Primitive
  right_at l = chain (reference_at (flag_at f 1)) (typ_at l)

  right : (l : Ref) → Sound (Right l) (right_at l)
  right l = Sound-then (Reference (flag_at f 1)) (Typ l) (reference_at (flag_at f 1)) (typ_at l) (Sound-reference (flag_at f 1)) (λ r w x. typ l r)

  abbrev pub Left : Primitive → List ℕ → Type 0
  Left = Then (Reference (flag_at f 0)) Right

  abbrev left_at : List ℕ → Reads Primitive
  left_at = chain (reference_at (flag_at f 0)) right_at

  left : Sound Left left_at
  left = Sound-then (Reference (flag_at f 0)) Right (reference_at (flag_at f 0)) right_at (Sound-reference (flag_at f 0)) (λ l w x. right l)

abbrev pub Flags : ℕ → List ℕ → Type 0
Flags = InRange 0 255 1

abbrev pub Parts : ℕ → Primitive → List ℕ → Type 0
Parts m = Then Flags (Left m)

parts : (m : ℕ) → Sound (Parts m) (primitive_at m)
unfolding primitive_at
parts m = Sound-then Flags (Left m) (number_at (up_to 255) 1) (left_at m) (Sound-range 0 255 1 (omega arith) refl refl) (λ f w x. left m f)

-- ---- the parts are the spelling

abbrev pub Spelled : ℕ → Primitive → List ℕ → Type 0
Spelled m = IsText primitive_bytes (PrimitiveFits m)

regroup : (x : ℕ) (l r t s p g v n : List ℕ) → (x ∷ []) ++ (l ++ (r ++ (t ++ (s ++ (p ++ (g ++ (v ++ (n ++ [])))))))) ≡ x ∷ l ++ r ++ t ++ s ++ p ++ g ++ v ++ n
regroup x l r t s p g v n = simp (append_assoc, append-nil)

-- the flag byte of a primitive that was made of its parts
flags_made : (m f : ℕ) (l r t s p g : Ref) (v : Datum) (n : Option (List ℕ)) → f ≤ 255 → is_some l ≡ flag_at f 0 → is_some r ≡ flag_at f 1 → is_some t ≡ flag_at f 2 → is_some s ≡ flag_at f 3 → is_some p ≡ flag_at f 4
    → is_some n ≡ flag_at f 5 → is_some g ≡ flag_at f 7 → flags (made m f l r t s p g v n) ≡ f
flags_made m f l r t s p g v n small at_0 at_1 at_2 at_3 at_4 at_5 at_7 =
    (λ i. sum (at_0 i) (at_1 i) (at_2 i) (at_3 i) (at_4 i) (at_5 i) (flag_at f 6) (at_7 i)) ∙ sum_back f small

pub to_spelled : (m : ℕ) (x : Primitive) (w : List ℕ) → Parts m x w → Spelled m x w
to_spelled m x w (
  f,
  a0,
  u0,
  (low, small, a0_is),
  (
    l,
    a1,
    u1,
    (l_there, l_fits, a1_is),
    (
      r,
      a2,
      u2,
      (r_there, r_fits, a2_is),
      (
        t,
        a3,
        u3,
        (t_there, t_fits, a3_is),
        (
          s,
          a4,
          u4,
          (s_there, s_fits, a4_is),
          (
            p,
            a5,
            u5,
            (p_there, p_fits, a5_is),
            (
              g,
              a6,
              u6,
              (g_there, g_fits, a6_is),
              (
                v,
                a7,
                u7,
                (v_fits, a7_is),
                (n, a8, u8, (n_there, n_fits, a8_is), (x_is, u8_is), u7_is),
                u6_is,
              ),
              u5_is,
            ),
            u4_is,
          ),
          u3_is,
        ),
        u2_is,
      ),
      u1_is,
    ),
    u0_is,
  ),
  w_is,
) =
    let made_flags = flags_made m f l r t s p g v n small l_there r_there t_there s_there p_there n_there g_there in
    let byte : f % 256 ≡ flags (made m f l r t s p g v n) = omega (arith, small, made_flags) in
    let text : w ≡ (flags (made m f l r t s p g v n) ∷ []) ++ (reference_bytes l ++ (reference_bytes r ++ (reference_bytes t ++ (reference_bytes s ++ (reference_bytes p ++ (reference_bytes g ++ (value_bytes v ++ (name_bytes n ++ [])))))))) =
    join w_is (a0_is ∙ ap (λ (b : ℕ). b ∷ []) byte) (join u0_is a1_is (join u1_is a2_is (join u2_is a3_is (join u3_is a4_is (join u4_is a5_is (join u5_is a6_is (join u6_is a7_is (join u7_is a8_is u8_is)))))))) in
    subst (λ (y : Primitive). Spelled m y w) (sym x_is) (
      record { left = l_fits; right = r_fits; typ = t_fits; scope = s_fits; previous = p_fits; lang = g_fits; value = v_fits; name = n_fits; same = refl },
      text ∙ regroup (flags (made m f l r t s p g v n)) (reference_bytes l) (reference_bytes r) (reference_bytes t) (reference_bytes s) (reference_bytes p) (reference_bytes g) (value_bytes v) (name_bytes n),
    )

pub from_spelled : (m : ℕ) (x : Primitive) (w : List ℕ) → Spelled m x w → Parts m x w
from_spelled m x w (fits, w_is) =
    let f = flags x in
    let bits = eight (is_some x.left) (is_some x.right) (is_some x.typ) (is_some x.scope) (is_some x.previous) (is_some x.name) x.live (is_some x.lang) in
    let byte : f ≡ f % 256 = omega (arith, bits.small) in
    let whole : w ≡ bytes_high_first 1 f ++ (reference_bytes x.left ++ (reference_bytes x.right ++ (reference_bytes x.typ ++ (reference_bytes x.scope ++ (reference_bytes x.previous ++ (reference_bytes x.lang ++ (value_bytes x.value ++ (name_bytes x.name ++ [])))))))) =
    w_is ∙ sym (regroup f (reference_bytes x.left) (reference_bytes x.right) (reference_bytes x.typ) (reference_bytes x.scope) (reference_bytes x.previous) (reference_bytes x.lang) (value_bytes x.value) (name_bytes x.name))
    ∙ ap (λ (b : ℕ). (b ∷ []) ++ (reference_bytes x.left ++ (reference_bytes x.right ++ (reference_bytes x.typ ++ (reference_bytes x.scope ++ (reference_bytes x.previous ++ (reference_bytes x.lang ++ (value_bytes x.value ++ (name_bytes x.name ++ []))))))))) byte in
    let same : x ≡ made m f x.left x.right x.typ x.scope x.previous x.lang x.value x.name = (λ i. record { left = x.left; right = x.right; typ = x.typ; scope = x.scope; value = x.value; name = x.name; previous = x.previous; live = (sym bits.at_6) i; moment = fits.same i; lang = x.lang }) in (
      f,
      bytes_high_first 1 f,
      _,
      (omega arith, bits.small, refl),
      (
        x.left,
        reference_bytes x.left,
        _,
        (sym bits.at_0, fits.left, refl),
        (
          x.right,
          reference_bytes x.right,
          _,
          (sym bits.at_1, fits.right, refl),
          (
            x.typ,
            reference_bytes x.typ,
            _,
            (sym bits.at_2, fits.typ, refl),
            (
              x.scope,
              reference_bytes x.scope,
              _,
              (sym bits.at_3, fits.scope, refl),
              (
                x.previous,
                reference_bytes x.previous,
                _,
                (sym bits.at_4, fits.previous, refl),
                (
                  x.lang,
                  reference_bytes x.lang,
                  _,
                  (sym bits.at_7, fits.lang, refl),
                  (
                    x.value,
                    value_bytes x.value,
                    _,
                    (fits.value, refl),
                    (x.name, name_bytes x.name, [], (sym bits.at_5, fits.name, refl), (same, refl), refl),
                    refl,
                  ),
                  refl,
                ),
                refl,
              ),
              refl,
            ),
            refl,
          ),
          refl,
        ),
        refl,
      ),
      whole,
    )

pub Sound-primitive : (m : ℕ) → Sound (Spelled m) (primitive_at m)
Sound-primitive m = Sound-same (Parts m) (Spelled m) (primitive_at m) (to_spelled m) (from_spelled m) (parts m)
