-- Ids that are left to be found.
use Rattle.std.proofs.Common.{◌≡◌, ℕ, ◌+◌, ◌≤◌, List, [], ◌∷◌, length, filter, Bool, true, false, cond, not, inl, inr, refl, ap, arith, ◌∙◌}
use Rattle.gd_order_laws.specs.Window.{In}
use Rattle.gd_left_laws.specs.Left.{ids_left}

none_more : (known new : ℕ → Bool) (os : List ℕ) → ((x : ℕ) → known x ≡ true → new x ≡ true) → ids_left new os ≤ ids_left known os
none_more known new [] stay = omega arith
none_more known new (x ∷ xs) stay = by (known x) (new x) refl refl (none_more known new xs stay)
  where
    by : (a b : Bool) → known x ≡ a → new x ≡ b → ids_left new xs ≤ ids_left known xs
        → length (cond (not b) (x ∷ filter (λ o. not (new o)) xs) (filter (λ o. not (new o)) xs)) ≤ length (cond (not a) (x ∷ filter (λ o. not (known o)) xs) (filter (λ o. not (known o)) xs))
    by true true one two rest = rest
    by true false one two rest = let both = stay x one in absurd (cc)
    by false true one two rest = omega (arith, rest)
    by false false one two rest = omega (arith, rest)

pub one_found : (known new : ℕ → Bool) (os : List ℕ) (o : ℕ) → In o os → known o ≡ false → new o ≡ true → ((x : ℕ) → known x ≡ true → new x ≡ true) → ids_left new os + 1 ≤ ids_left known os
one_found known new [] o here was is stay = absurd here
one_found known new (x ∷ xs) o (inl same) was is stay = by (known x) (new x) (ap known same ∙ was) (ap new same ∙ is) (none_more known new xs stay)
  where
    by : (a b : Bool) → a ≡ false → b ≡ true → ids_left new xs ≤ ids_left known xs
        → length (cond (not b) (x ∷ filter (λ o. not (new o)) xs) (filter (λ o. not (new o)) xs)) + 1 ≤ length (cond (not a) (x ∷ filter (λ o. not (known o)) xs) (filter (λ o. not (known o)) xs))
    by false true one two rest = omega (arith, rest)
    by true b one two rest = absurd (cc)
    by false false one two rest = absurd (cc)
one_found known new (x ∷ xs) o (inr there) was is stay = by (known x) (new x) refl refl (one_found known new xs o there was is stay)
  where
    by : (a b : Bool) → known x ≡ a → new x ≡ b → ids_left new xs + 1 ≤ ids_left known xs
        → length (cond (not b) (x ∷ filter (λ o. not (new o)) xs) (filter (λ o. not (new o)) xs)) + 1 ≤ length (cond (not a) (x ∷ filter (λ o. not (known o)) xs) (filter (λ o. not (known o)) xs))
    by true true one two rest = rest
    by true false one two rest = let both = stay x one in absurd (cc)
    by false true one two rest = omega (arith, rest)
    by false false one two rest = omega (arith, rest)
