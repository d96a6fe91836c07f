-- Sums over lists that are kept of others.
use Rattle.std.proofs.Common.{◌≡◌, ℕ, suc, ◌+◌, ◌*◌, ◌≤◌, List, [], ◌∷◌, length, filter, Bool, true, false, cond, refl, arith}
use Rattle.std.specs.Prelude.{sum_by}
use Rattle.std.proofs.lemmas.List.Sums.{sum_by-cons}

-- what is kept by one test sums to at most what is kept by another, where that keeps all that counts
pub sum_kept : (p q : ℕ → Bool) (g f : ℕ → ℕ) (xs : List ℕ) → ((x : ℕ) → p x ≡ true → q x ≡ false → g x ≡ 0) → ((x : ℕ) → q x ≡ true → g x ≤ f x)
    → sum_by g (filter p xs) ≤ sum_by f (filter q xs)
sum_kept p q g f [] none less = omega arith
sum_kept p q g f (x ∷ xs) none less = by (p x) (q x) refl refl (sum_kept p q g f xs none less)
  where
    both : (a b r s t u : ℕ) → t ≡ a + r → u ≡ b + s → a ≤ b → r ≤ s → t ≤ u
    both a b r s t u one two here later = omega (arith, one, two, here, later)

    first : (a r s t : ℕ) → t ≡ a + r → a ≡ 0 → r ≤ s → t ≤ s
    first a r s t one here later = omega (arith, one, here, later)

    second : (b r s u : ℕ) → u ≡ b + s → r ≤ s → r ≤ u
    second b r s u two later = omega (arith, two, later)

    by : (a b : Bool) → p x ≡ a → q x ≡ b → sum_by g (filter p xs) ≤ sum_by f (filter q xs) → sum_by g (cond a (x ∷ filter p xs) (filter p xs)) ≤ sum_by f (cond b (x ∷ filter q xs) (filter q xs))
    by true true one two rest = both (g x) (f x) _ _ _ _ (sum_by-cons g x (filter p xs)) (sum_by-cons f x (filter q xs)) (less x two) rest
    by true false one two rest = first (g x) _ _ _ (sum_by-cons g x (filter p xs)) (none x one two) rest
    by false true one two rest = second (f x) _ _ _ (sum_by-cons f x (filter q xs)) rest
    by false false one two rest = rest

-- a test that lets through no more keeps no more
pub count_kept : (p q : ℕ → Bool) (xs : List ℕ) → ((x : ℕ) → p x ≡ true → q x ≡ true) → length (filter p xs) ≤ length (filter q xs)
count_kept p q [] more = omega arith
count_kept p q (x ∷ xs) more = by (p x) (q x) refl refl (count_kept p q xs more)
  where
    by : (a b : Bool) → p x ≡ a → q x ≡ b → length (filter p xs) ≤ length (filter q xs) → length (cond a (x ∷ filter p xs) (filter p xs)) ≤ length (cond b (x ∷ filter q xs) (filter q xs))
    by true true one two rest = omega (arith, rest)
    by true false one two rest = let here = more x one in absurd (cc)
    by false true one two rest = omega (arith, rest)
    by false false one two rest = rest

-- a sum of a number for each and something more
pub sum_parts : (n : ℕ) (f g : ℕ → ℕ) (m : ℕ) (xs : List ℕ) → ((x : ℕ) → g x ≤ n + m * f x) → sum_by g xs ≤ n * length xs + m * sum_by f xs
sum_parts n f g m [] less = omega arith
sum_parts n f g m (x ∷ xs) less = by (g x) (f x) _ _ _ _ _ (sum_by-cons g x xs) (sum_by-cons f x xs) (less x) (sum_parts n f g m xs less)
  where
    spread : (a b : ℕ) → m * (a + b) ≡ m * a + m * b
    spread a b = grind (arith)

    more : (l : ℕ) → n * suc l ≡ n + n * l
    more l = grind (arith)

    sums : (a b r s t ml nl mb ms : ℕ) → t ≡ a + r → a ≤ n + mb → r ≤ nl + ms → t ≤ n + nl + (mb + ms)
    sums a b r s t ml nl mb ms one here later = omega (arith, one, here, later)

    by : (a b r s t u l : ℕ) → t ≡ a + r → u ≡ b + s → a ≤ n + m * b → r ≤ n * l + m * s → t ≤ n * suc l + m * u
    by a b r s t u l one two here later =
        rw (two, spread b s, more l) (sums a b r s t 0 (n * l) (m * b) (m * s) one here later)
