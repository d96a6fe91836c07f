-- The first newline of bytes.
use Rattle.std.proofs.Common.{◌≡◌, ℕ, zero, suc, ◌+◌, ◌<◌, ◌≤◌, List, [], ◌∷◌, ◌++◌, length, take, drop, get_or, Bool, true, false, Option, Some, None, MatchOption, refl, sym, ap, subst, ◌∙◌, arith, add-one, drop-cons, take-append-drop}
use Rattle.std.specs.Prelude.{slice_index, ◌==◌}
use Rattle.std.proofs.lemmas.Bool.Decides.{nat_tests}
use Rattle.memchr.specs.Find.{IsFirstByte, is_byte}
use Rattle.gd_input.specs.Pieces.{IsPlain, IsFirstNewline}

not_true : (b : Bool) → (b ≡ true → ⊥) → b ≡ false
not_true true never = absurd (never refl)
not_true false never = refl

plain_front : (xs : List ℕ) (n : ℕ) → n ≤ length xs → ((k : ℕ) → k < n → (slice_index xs k == 10) ≡ true → ⊥) → IsPlain (take n xs)
plain_front [] zero within none = tt
plain_front [] (suc n) within none = tt
plain_front (c ∷ xs) zero within none = tt
plain_front (c ∷ xs) (suc n) within none = (not_true (c == 10) (none 0 (omega arith)), plain_front xs n (omega arith) (λ k below is. none (suc k) (omega arith) is))

all_of : (xs : List ℕ) → take (length xs) xs ≡ xs
all_of [] = refl
all_of (x ∷ xs) = ap (λ l. x ∷ l) (all_of xs)

is_ten : (n : ℕ) → (n == 10) ≡ true → n ≡ 10
is_ten n is = grind (arith, nat_tests)

newline_parts : (xs : List ℕ) (n : ℕ) → n < length xs → (slice_index xs n == 10) ≡ true → xs ≡ take n xs ++ 10 ∷ drop (n + 1) xs
newline_parts xs n within is =
    let there : drop n xs ≡ 10 ∷ drop (n + 1) xs = drop-cons xs n 0 within ∙ ap (λ c. c ∷ drop (suc n) xs) (is_ten (get_or xs n 0) is) ∙ ap (λ m. 10 ∷ drop m xs) (sym (add-one n)) in
    sym (take-append-drop n xs) ∙ ap (λ l. take n xs ++ l) there

pub first_newline : (xs : List ℕ) (r : Option ℕ) → IsFirstByte (is_byte 10) xs r → MatchOption r (IsPlain xs) (IsFirstNewline xs)
first_newline xs None none = subst IsPlain (all_of xs) (plain_front xs (length xs) (omega arith) (λ k below. none k (omega arith) below))
first_newline xs (Some n) (first, is) = record {
  before = plain_front xs n (omega (arith, first.high)) (λ k below. first.before k (omega arith) below);
  parts = newline_parts xs n first.high is;
}
