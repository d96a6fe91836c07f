-- The newest state of a store.
use Rattle.std.proofs.Common.{◌≡◌, refl, ap, List, [], ◌∷◌, length, take}

-- all of the batches are all of them
pub whole : {A : Type 0} (xs : List A) → take (length xs) xs ≡ xs
whole [] = refl
whole (x ∷ xs) = ap (λ l. x ∷ l) (whole xs)
