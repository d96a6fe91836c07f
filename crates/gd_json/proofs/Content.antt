-- The content of a string in UTF-8 is UTF-8.
use Rattle.std.proofs.Common.{◌≡◌, ◌<◌, ℕ, zero, suc, ◌+◌, ◌*◌, List, [], ◌∷◌, ◌++◌, length, get_or, true, false, cond, ◌&&◌, ◌||◌, Option, Some, None, sym, subst, arith, append_assoc, length-append}
use Rattle.std.specs.Prelude.{nat_eq, nat_lt, nat_le, option_and_then}
use Rattle.std.specs.Char.{digit_value, is_digit, encode_utf8, IsScalar}
use Rattle.std.specs.Str.{IsUtf8}
use Rattle.std.proofs.Math.Seq.{get_or-append_seam, take-append_seam, drop-append-add}
use Rattle.std.proofs.lemmas.Bool.{and_parts, eqb-true}
use Rattle.std.proofs.lemmas.Bool.Decides.{nat_tests}
use Rattle.std.proofs.lemmas.Str.{IsUtf8-append, IsUtf8-nil, IsUtf8-take, IsUtf8-drop, IsUtf8-encode, IsUtf8-from_ascii, IsCharBoundary-before_ascii, IsCharBoundary-after_ascii}
use Rattle.json.specs.Text.{code_unit, short_escape, is_high_surrogate, is_low_surrogate, surrogate_pair, plain, after_backslash, after_u, after_high, prepend, content}
use Rattle.gd_grammar.proofs.Steps.{some_same, not_some, maybe, mapped, either}

-- a text may be cut before and behind a byte below 128
pub record Cut (pre xs : List ℕ) : Type 0 where
  pub before : IsUtf8 pre
  pub behind : IsUtf8 xs

pub cut : (pre : List ℕ) (x : ℕ) (xs : List ℕ) → x < 128 → IsUtf8 (pre ++ x ∷ xs) → Cut pre xs
cut pre x xs low utf8 =
    let here : length pre < length (pre ++ x ∷ xs) = omega (arith, length-append pre (x ∷ xs)) in
    let byte : get_or (pre ++ x ∷ xs) (length pre) 0 < 128 = omega (arith, get_or-append_seam pre x xs 0, low) in
    record {
      before = subst IsUtf8 (take-append_seam pre (x ∷ xs)) (IsUtf8-take (pre ++ x ∷ xs) (length pre) utf8 (IsCharBoundary-before_ascii (pre ++ x ∷ xs) (length pre) here byte));
      behind = subst IsUtf8 (drop-append-add pre (x ∷ xs) 1) (IsUtf8-drop (pre ++ x ∷ xs) (length pre + 1) utf8 (IsCharBoundary-after_ascii (pre ++ x ∷ xs) (length pre) utf8 here byte));
    }

-- behind a byte below 128 at the front
behind_ascii : (x : ℕ) (xs : List ℕ) → x < 128 → IsUtf8 (x ∷ xs) → IsUtf8 xs
behind_ascii x xs low utf8 = (cut [] x xs low utf8).behind

-- ---- escapes

digit-low : (c : ℕ) → is_digit c 16 ≡ true → c < 128
digit-low c is = grind (arith, nat_tests)

-- what four digits spell
record Unit4 (a b c d u : ℕ) : Type 0 where
  one : a < 128
  two : b < 128
  three : c < 128
  four : d < 128
  small : u < 65536

digit-small : (c : ℕ) → is_digit c 16 ≡ true → digit_value c < 16
digit-small c is = grind (arith, nat_tests)

unit4 : (a b c d u : ℕ) → code_unit a b c d ≡ Some u → Unit4 a b c d u
unfolding code_unit
unit4 a b c d u is = either (is_digit a 16 && is_digit b 16 && is_digit c 16 && is_digit d 16) (Some (digit_value a * 4096 + digit_value b * 256 + digit_value c * 16 + digit_value d)) None (Some u)
    (λ are same.
    let x = and_parts (is_digit a 16 && is_digit b 16 && is_digit c 16) (is_digit d 16) are in
    let y = and_parts (is_digit a 16 && is_digit b 16) (is_digit c 16) x.0 in
    let z = and_parts (is_digit a 16) (is_digit b 16) y.0 in
    let e = some_same (digit_value a * 4096 + digit_value b * 256 + digit_value c * 16 + digit_value d) u same in
    let p = digit-small a z.0 in
    let q = digit-small b z.1 in
    let r = digit-small c y.1 in
    let s = digit-small d x.1 in
    record { one = digit-low a z.0; two = digit-low b z.1; three = digit-low c y.1; four = digit-low d x.1; small = omega (arith, e, p, q, r, s) })
    (λ are none. not_some u none) is

-- a short escape is ASCII, and so is what it stands for
record Short (x c : ℕ) : Type 0 where
  byte : x < 128
  stands : c < 128

short : (x c : ℕ) → short_escape x ≡ Some c → Short x c
unfolding short_escape
short x c is = either (nat_eq x 34 || nat_eq x 92 || nat_eq x 47) (Some x) _ (Some c) (λ b same. let e = some_same x c same in let low = few x b in record { byte = low; stands = omega (arith, e, low) })
    (λ b is. either (nat_eq x 98) (Some 8) _ (Some c) (λ b same. let e = some_same 8 c same in let x_is = eqb-true x 98 b in record { byte = omega arith; stands = omega arith })
    (λ b is. either (nat_eq x 102) (Some 12) _ (Some c) (λ b same. let e = some_same 12 c same in let x_is = eqb-true x 102 b in record { byte = omega arith; stands = omega arith })
    (λ b is. either (nat_eq x 110) (Some 10) _ (Some c) (λ b same. let e = some_same 10 c same in let x_is = eqb-true x 110 b in record { byte = omega arith; stands = omega arith })
    (λ b is. either (nat_eq x 114) (Some 13) _ (Some c) (λ b same. let e = some_same 13 c same in let x_is = eqb-true x 114 b in record { byte = omega arith; stands = omega arith })
    (λ b is. either (nat_eq x 116) (Some 9) None (Some c) (λ b same. let e = some_same 9 c same in let x_is = eqb-true x 116 b in record { byte = omega arith; stands = omega arith })
    (λ b none. not_some c none) is) is) is) is) is) is
  where
    few : (x : ℕ) → (nat_eq x 34 || nat_eq x 92 || nat_eq x 47) ≡ true → x < 128
    few x is = grind (arith, nat_tests)

unit-scalar : (u : ℕ) → u < 65536 → is_high_surrogate u ≡ false → is_low_surrogate u ≡ false → IsScalar u
unit-scalar u small high low = grind (arith, nat_tests)

pair-scalar : (h l : ℕ) → is_high_surrogate h ≡ true → is_low_surrogate l ≡ true → IsScalar (surrogate_pair h l)
pair-scalar h l high low =
    let a = and_parts (nat_le 55296 h) (nat_lt h 56320) high in
    let b = and_parts (nat_le 56320 l) (nat_lt l 57344) low in
    grind (arith, nat_tests)

ascii-utf8 : (c : ℕ) → c < 128 → IsUtf8 (c ∷ [])
ascii-utf8 c low = IsUtf8-from_ascii (c ∷ []) one
  where
    one : (k : ℕ) → get_or (c ∷ []) k 0 < 128
    one zero = low
    one (suc k) = omega arith

-- what was put in front
fronted : (bytes : List ℕ) (rest : Option (List ℕ)) (s : List ℕ) → IsUtf8 bytes → ((t : List ℕ) → rest ≡ Some t → IsUtf8 t) → prepend bytes rest ≡ Some s → IsUtf8 s
fronted bytes rest s utf8 later is = let t = mapped rest (λ s. bytes ++ s) s is in subst IsUtf8 t.is (IsUtf8-append bytes t.value utf8 (later t.value t.gave))

mutual
  unfolding content

  -- behind a front that was passed over, which may end within a character
  content-utf8 : (pre xs s : List ℕ) → IsUtf8 (pre ++ xs) → content plain xs ≡ Some s → IsUtf8 (pre ++ s)
  content-utf8 pre [] s utf8 is = not_some s is
  content-utf8 pre (x ∷ xs) s utf8 is = either (nat_eq x 34) (Some []) _ (Some s)
      (λ b same. let low = eqb-true x 34 b in subst (λ s. IsUtf8 (pre ++ s)) (some_same [] s same) (IsUtf8-append pre [] (cut pre x xs (omega arith) utf8).before IsUtf8-nil))
      (λ b rest. either (nat_eq x 92) (content after_backslash xs) _ (Some s)
      (λ b escape. let low = eqb-true x 92 b in let parts = cut pre x xs (omega arith) utf8 in IsUtf8-append pre s parts.before (escape-utf8 xs s parts.behind escape))
      (λ b rest. either (nat_lt x 32) None (prepend (x ∷ []) (content plain xs)) (Some s) (λ b none. not_some s none)
      (λ b raw. let t = mapped (content plain xs) (λ s. x ∷ [] ++ s) s raw in
      subst (λ s. IsUtf8 (pre ++ s)) t.is (subst IsUtf8 (append_assoc pre (x ∷ []) t.value)
      (content-utf8 (pre ++ x ∷ []) xs t.value (subst IsUtf8 (sym (append_assoc pre (x ∷ []) xs)) utf8) t.gave))) rest) rest) is

  escape-utf8 : (xs s : List ℕ) → IsUtf8 xs → content after_backslash xs ≡ Some s → IsUtf8 s
  escape-utf8 [] s utf8 is = not_some s is
  escape-utf8 (x ∷ xs) s utf8 is = either (nat_eq x 117) (content after_u xs) _ (Some s)
      (λ b unit. let low = eqb-true x 117 b in unit-utf8 xs s (behind_ascii x xs (omega arith) utf8) unit)
      (λ b rest. let c = maybe (short_escape x) (λ c. prepend (c ∷ []) (content plain xs)) s rest in
      let low = short x c.value c.gave in
      fronted (c.value ∷ []) (content plain xs) s (ascii-utf8 c.value low.stands) (λ t later. content-utf8 [] xs t (behind_ascii x xs low.byte utf8) later) c.then_gave) is

  unit-utf8 : (xs s : List ℕ) → IsUtf8 xs → content after_u xs ≡ Some s → IsUtf8 s
  unit-utf8 [] s utf8 is = not_some s is
  unit-utf8 (a ∷ []) s utf8 is = not_some s is
  unit-utf8 (a ∷ b ∷ []) s utf8 is = not_some s is
  unit-utf8 (a ∷ b ∷ c ∷ []) s utf8 is = not_some s is
  unit-utf8 (a ∷ b ∷ c ∷ d ∷ xs) s utf8 is =
      let u = maybe (code_unit a b c d) (λ u. cond (is_high_surrogate u) (content (after_high u) xs) (cond (is_low_surrogate u) None (prepend (encode_utf8 u) (content plain xs)))) s is in
      let four = unit4 a b c d u.value u.gave in
      let rest = behind_ascii d xs four.four (behind_ascii c (d ∷ xs) four.three (behind_ascii b (c ∷ d ∷ xs) four.two (behind_ascii a (b ∷ c ∷ d ∷ xs) four.one utf8))) in
      either (is_high_surrogate u.value) (content (after_high u.value) xs) _ (Some s)
      (λ high pair. pair-utf8 u.value xs s high rest pair)
      (λ high other. either (is_low_surrogate u.value) None (prepend (encode_utf8 u.value) (content plain xs)) (Some s) (λ low none. not_some s none)
      (λ low one. fronted (encode_utf8 u.value) (content plain xs) s (IsUtf8-encode u.value (unit-scalar u.value four.small high low)) (λ t later. content-utf8 [] xs t rest later) one) other)
      u.then_gave

  pair-utf8 : (h : ℕ) (xs s : List ℕ) → is_high_surrogate h ≡ true → IsUtf8 xs → content (after_high h) xs ≡ Some s → IsUtf8 s
  pair-utf8 h [] s high utf8 is = not_some s is
  pair-utf8 h (y ∷ []) s high utf8 is = not_some s is
  pair-utf8 h (y ∷ u ∷ []) s high utf8 is = not_some s is
  pair-utf8 h (y ∷ u ∷ a ∷ []) s high utf8 is = not_some s is
  pair-utf8 h (y ∷ u ∷ a ∷ b ∷ []) s high utf8 is = not_some s is
  pair-utf8 h (y ∷ u ∷ a ∷ b ∷ c ∷ []) s high utf8 is = not_some s is
  pair-utf8 h (y ∷ u ∷ a ∷ b ∷ c ∷ d ∷ xs) s high utf8 is = either (nat_eq y 92 && nat_eq u 117)
      (option_and_then (λ l. cond (is_low_surrogate l) (prepend (encode_utf8 (surrogate_pair h l)) (content plain xs)) None) (code_unit a b c d)) None (Some s)
      (λ both given. let marks = and_parts (nat_eq y 92) (nat_eq u 117) both in
      let y_is = eqb-true y 92 marks.0 in
      let u_is = eqb-true u 117 marks.1 in
      let l = maybe (code_unit a b c d) (λ l. cond (is_low_surrogate l) (prepend (encode_utf8 (surrogate_pair h l)) (content plain xs)) None) s given in
      let four = unit4 a b c d l.value l.gave in
      let rest = behind_ascii d xs four.four (behind_ascii c (d ∷ xs) four.three (behind_ascii b (c ∷ d ∷ xs) four.two (behind_ascii a (b ∷ c ∷ d ∷ xs) four.one
      (behind_ascii u (a ∷ b ∷ c ∷ d ∷ xs) (omega arith) (behind_ascii y (u ∷ a ∷ b ∷ c ∷ d ∷ xs) (omega arith) utf8))))) in
      either (is_low_surrogate l.value) (prepend (encode_utf8 (surrogate_pair h l.value)) (content plain xs)) None (Some s)
      (λ low one. fronted (encode_utf8 (surrogate_pair h l.value)) (content plain xs) s (IsUtf8-encode (surrogate_pair h l.value) (pair-scalar h l.value high low)) (λ t later. content-utf8 [] xs t rest later) one)
      (λ low none. not_some s none) l.then_gave)
      (λ both none. not_some s none) is

-- the content of a string
pub string-utf8 : (xs s : List ℕ) → IsUtf8 xs → content plain xs ≡ Some s → IsUtf8 s
string-utf8 xs s utf8 is = content-utf8 [] xs s utf8 is
