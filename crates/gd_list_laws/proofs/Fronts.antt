-- What stands in front of a list: its first elements, and its last one apart.
use Rattle.std.proofs.Common.{◌≡◌, ℕ, zero, suc, ◌<◌, ◌≤◌, List, [], ◌∷◌, ◌++◌, Option, Some, length, take, refl, ap, arith}
use Rattle.std.specs.Prelude.{nat_lt}
use Rattle.std.specs.Cmp.{both_ways}
use Rattle.std.specs.List.{last_or}
use Rattle.std.proofs.lemmas.Bool.{lt-ltb, ltb-true}

-- ---- the first elements

module _ {A : Type 0} where
  pub take_longer : (n : ℕ) (xs : List A) → take n (take (suc n) xs) ≡ take n xs
  take_longer zero xs = refl
  take_longer (suc n) [] = refl
  take_longer (suc n) (x ∷ xs) = ap (λ l. x ∷ l) (take_longer n xs)

  pub taken_less : (m n : ℕ) (xs : List A) → m < n → m < length xs → m < length (take n xs)
  taken_less m zero xs less more = absurd (omega (arith, less))
  taken_less m (suc n) [] less more = absurd (omega (arith, more))
  taken_less zero (suc n) (x ∷ xs) less more = omega arith
  taken_less (suc m) (suc n) (x ∷ xs) less more = let rest = taken_less m n xs (omega (arith, less)) (omega (arith, more)) in omega (arith, rest)

  pub less_taken : (n : ℕ) (xs : List A) → length (take n xs) ≤ length xs
  less_taken zero xs = omega arith
  less_taken (suc n) [] = omega arith
  less_taken (suc n) (x ∷ xs) = let rest = less_taken n xs in omega (arith, rest)

  -- whether there are more than so many can be told from the first ones
  pub more_than : (m n : ℕ) (xs : List A) → m < n → nat_lt m (length (take n xs)) ≡ nat_lt m (length xs)
  more_than m n xs less = both_ways (nat_lt m (length (take n xs))) (nat_lt m (length xs))
      (λ is. lt-ltb m (length xs) (let taken = ltb-true m (length (take n xs)) is in let few = less_taken n xs in omega (arith, taken, few)))
      (λ is. lt-ltb m (length (take n xs)) (taken_less m n xs less (ltb-true m (length xs) is)))

pub take_whole : {A : Type 0} (n : ℕ) (xs : List A) → length xs ≤ n → take n xs ≡ xs
take_whole zero [] few = refl
take_whole (suc n) [] few = refl
take_whole zero (x ∷ xs) few = absurd (omega (arith, few))
take_whole (suc n) (x ∷ xs) few = ap (λ l. x ∷ l) (take_whole n xs (omega (arith, few)))

-- a list with its last element apart
pub split_last : {A : Type 0} (x : A) (xs : List A) → (front : List A) × (last : A) × (x ∷ xs ≡ front ++ last ∷ [])
split_last x [] = ([], x, refl)
split_last x (y ∷ ys) = let rest = split_last y ys in (x ∷ rest.0, rest.1, ap (λ l. x ∷ l) rest.2)

pub last_is : {A : Type 0} (o : Option A) (front : List A) (last : A) → last_or o (front ++ last ∷ []) ≡ Some last
last_is o [] last = refl
last_is o (x ∷ front) last = last_is (Some x) front last

pub taken_last : {A : Type 0} (n : ℕ) (xs : List A) → 0 < n → n < length xs → (front : List A) × (last : A) × (take n xs ≡ front ++ last ∷ [])
taken_last zero xs some more = absurd (omega (arith, some))
taken_last (suc n) [] some more = absurd (omega (arith, more))
taken_last (suc n) (x ∷ xs) some more = split_last x (take n xs)
