-- Elements of lists, and numbers one of which is less.
use Rattle.std.proofs.Common.{◌≡◌, refl, ℕ, zero, suc, ◌+◌, ◌<◌, ◌⊎◌, inl, inr, ⊎_elim, List, [], ◌∷◌, length, drop, replicate, set, Some, slice_get, get_or, sym, ap, ◌∙◌, arith}
use Rattle.std.proofs.lemmas.Option.{slice_get-get_or}
use Rattle.gd_runs.proofs.Rounds.{no_some, some_same}

pub set_cases : {X : Type 0} (xs : List X) (i j : ℕ) (y x : X) → slice_get (set xs i y) j ≡ Some x → ((j ≡ i) × (x ≡ y)) ⊎ ((j ≡ i → ⊥) × (slice_get xs j ≡ Some x))
set_cases [] i j y x at = no_some at
set_cases (z ∷ xs) zero zero y x at = inl (refl, sym (some_same at))
set_cases (z ∷ xs) zero (suc j) y x at = inr (λ is. omega (arith, is), at)
set_cases (z ∷ xs) (suc i) zero y x at = inr (λ is. omega (arith, is), at)
set_cases (z ∷ xs) (suc i) (suc j) y x at = ⊎_elim (λ (place, is). inl (ap suc place, is)) (λ (other, old). inr (λ is. other (omega (arith, is)), old)) (set_cases xs i j y x at)

-- there is an element at a place within the list
pub there : {X : Type 0} (xs : List X) (j : ℕ) → j < length xs → (x : X) × (slice_get xs j ≡ Some x)
there [] j within = absurd (omega (arith, within))
there (x ∷ xs) zero within = (x, refl)
there (x ∷ xs) (suc j) within = there xs j (omega (arith, within))

pub less_or : (a b : ℕ) → (a < b) ⊎ ((a ≡ b) ⊎ (b < a))
less_or zero zero = inr (inl refl)
less_or zero (suc b) = inl (omega arith)
less_or (suc a) zero = inr (inr (omega arith))
less_or (suc a) (suc b) = ⊎_elim (λ less. inl (omega (arith, less))) (λ rest. inr (⊎_elim (λ same. inl (ap suc same)) (λ more. inr (omega (arith, more))) rest)) (less_or a b)

-- the element that a loop is at
pub item_there : {X : Type 0} (xs : List X) (i : ℕ) (x : X) → i < length xs → x ≡ get_or xs i x → slice_get xs i ≡ Some x
item_there xs i x within is = slice_get-get_or xs i x within ∙ ap Some (sym is)

-- what is left from it on
pub drop_there : {X : Type 0} (xs : List X) (i : ℕ) (x : X) → slice_get xs i ≡ Some x → drop i xs ≡ x ∷ drop (i + 1) xs
drop_there [] i x at = no_some at
drop_there {X = X} (y ∷ xs) zero x at = ap (λ (z : X). z ∷ xs) (some_same at)
drop_there {X = X} (y ∷ xs) (suc i) x at = drop_there xs i x at ∙ ap (λ (n : ℕ). x ∷ drop n xs) (one i) ∙ ap (λ (n : ℕ). x ∷ drop n (y ∷ xs)) (sym (plus i))
  where
    plus : (i : ℕ) → suc i + 1 ≡ suc (suc i)
    plus i = omega arith

    one : (i : ℕ) → i + 1 ≡ suc i
    one i = omega arith

pub replicate_all : {X : Type 0} (n i : ℕ) (x y : X) → slice_get (replicate n x) i ≡ Some y → y ≡ x
replicate_all zero i x y at = no_some at
replicate_all (suc n) zero x y at = sym (some_same at)
replicate_all (suc n) (suc i) x y at = replicate_all n i x y at
