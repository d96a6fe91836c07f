-- What is left of a list at an index.
use Rattle.std.proofs.Common.{◌≡◌, ◌≤◌, ◌<◌, ◌+◌, ℕ, zero, suc, List, [], ◌∷◌, drop, length, get_or, refl, sym, ap, add-one, drop-cons, arith}

-- it begins with what stands there
pub left_at : {A : Type 0} (xs : List A) (i : ℕ) (x : A) → i < length xs → x ≡ get_or xs i x → drop i xs ≡ x ∷ drop (i + 1) xs
left_at xs i x within is = rw (add-one, drop-cons xs i x) (ap (λ y. y ∷ drop (suc i) xs) (sym is))

-- past the end nothing is left
pub past : {A : Type 0} (xs : List A) (i : ℕ) → length xs ≤ i → drop i xs ≡ []
past [] zero end = refl
past [] (suc i) end = refl
past (x ∷ xs) zero end = absurd (omega (arith, end))
past (x ∷ xs) (suc i) end = past xs i (omega (arith, end))
