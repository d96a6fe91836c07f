-- How many of some replies tell a failure of the disk.
use Rattle.std.proofs.Common.{◌≡◌, ℕ, ◌+◌, List, [], ◌∷◌, ◌++◌, length, if◌then◌else◌, sym, ap, ◌∙◌, arith, add_assoc, zero-add}
use Rattle.gd_runs.specs.Explained.{tells_fault, fault_count}

-- LAW: those of the first part, and those of the second
pub fault_count-append : (k : ℕ) (xs ys : List (List ℕ)) → fault_count k (xs ++ ys) ≡ fault_count k xs + fault_count (k + length xs) ys
fault_count-append k [] ys = let same : k ≡ k + 0 = omega arith in ap (λ (n : ℕ). fault_count n ys) same ∙ sym (zero-add (fault_count (k + 0) ys))
fault_count-append k (x ∷ xs) ys =
    let first : ℕ = if tells_fault k x then 1 else 0 in
    let rest = fault_count-append (k + 1) xs ys in
    let place : (k + 1) + length xs ≡ k + length (x ∷ xs) = omega arith in
    ap (λ (n : ℕ). first + n) (rest ∙ ap (λ (n : ℕ). fault_count (k + 1) xs + fault_count n ys) place) ∙ sym (add_assoc first (fault_count (k + 1) xs) (fault_count (k + length (x ∷ xs)) ys))
