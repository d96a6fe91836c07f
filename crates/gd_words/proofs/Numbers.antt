-- Texts of digits, and what the parser of numbers makes of them.
use Rattle.std.proofs.Common.{rules, arith, ◌≡◌, ◌&&◌, ◌<◌, ◌≤◌, ◌^◌, ℕ, List, length, inl, inr, true, None, Err, refl}
use Rattle.std.specs.Prelude.{nat_le}
use Rattle.std.specs.List.{list_all}
use Rattle.std.specs.Char.{is_ascii_digit}
use Rattle.std.specs.Str.Parse.{digits_value, ParsesUnsigned}
use Rattle.std.proofs.lemmas.Bool.{and_parts, cases_Bool, leb-true}
use Rattle.std.proofs.lemmas.Str.Parse.{IsNumeralModel, numerals_by_value, parse_digits}
use Rattle.gd_words.specs.Words.{is_number, number_of}

-- digits by the test of the definition
pub own : IsNumeralModel (λ ds. list_all is_ascii_digit ds ≡ true) (digits_value 10)
own = numerals_by_value _ (search rules)

-- digits that are too large for 32 bits are in no range
pub no_number : {E : Type 0} (low high : ℕ) (text : List ℕ) (e : E) → high < 2 ^ 32 → list_all is_ascii_digit text ≡ true
    → ParsesUnsigned 32 10 text (Err e) → None ≡ number_of low high text
no_number low high text e fits digits refused =
    elim (cases_Bool (is_number text && (nat_le low (digits_value 10 text) && nat_le (digits_value 10 text) high))) [
      | inl in_range ↦
          let parts = and_parts _ _ in_range in
          let some : 1 ≤ length text = leb-true _ _ (and_parts _ _ parts.0).0 in
          let small : digits_value 10 text ≤ high = leb-true _ _ (and_parts (nat_le low (digits_value 10 text)) (nat_le (digits_value 10 text) high) parts.1).1 in
          let some_digit : 0 < length text = omega arith in
          let fits_word : digits_value 10 text < 2 ^ 32 = omega arith in
          absurd (parse_digits own 32 text (Err e) refused digits (some_digit, fits_word))
      | inr outside ↦ rw outside refl
    ]
