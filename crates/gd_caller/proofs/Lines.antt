-- The lines of a round.
use Rattle.std.proofs.Common.{◌≡◌, refl, ℕ, zero, suc, ◌+◌, ◌^◌, ◌<◌, ◌≤◌, Bool, List, [], ◌∷◌, length, map, take, Option, Some, slice_get, if◌then◌else◌, ap, ◌∙◌, arith}
use Rattle.gd_prim.specs.declared.Batch.{Batch}
use Rattle.std.specs.List.{AllByRecursion}
use Rattle.gd_runs.specs.Legal.{Entry, History}
use Rattle.gd_runs.specs.Explained.{memory_line, fault_count}
use Rattle.gd_runs.specs.Side as side
use Rattle.gd_runs.proofs.Rounds.{no_some, some_same}
use Rattle.gd_core_laws.proofs.Quiet.{memory_quiet}
use Rattle.gd_round_lines.specs.declared.work.WriteLine.{WriteLine}
use Rattle.gd_round_lines.specs.Fresh.{IsFreshFrom}
use Rattle.gd_caller.specs.Served.{LeftAreFresh}
use Rattle.gd_round_lines.specs.Replies.{no_memory}
use Rattle.gd_round_lines.specs.Works.{write_of, IsWriteWithin}
use Rattle.gd_round_lines.proofs.Lines.{lines_within}

pub short_take : (n : ℕ) (xs : List Batch) → length (take n xs) ≤ length xs
short_take zero xs = omega arith
short_take (suc n) [] = omega arith
short_take (suc n) (x ∷ xs) = let rest = short_take n xs in omega (arith, rest)

pub lines_fresh : (first end : ℕ) (h : History) (doubt : Option Entry) (ws : List WriteLine) → IsFreshFrom first h doubt → AllByRecursion (IsWriteWithin first end) ws → LeftAreFresh (map write_of ws) h doubt []
lines_fresh first end h doubt ws fresh all x a at left = fresh a.line (lines_within first end ws x a all at).0

-- ---- lines for which there was no room

pub passed_many : (k n : ℕ) → length (no_memory k n) ≡ n
passed_many k zero = refl
passed_many k (suc n) = ap suc (passed_many (k + 1) n)

pub passed_at : (k n j : ℕ) (x : List ℕ) → slice_get (no_memory k n) j ≡ Some x → memory_line (k + j) ≡ x
passed_at k zero j x at = no_some at
passed_at k (suc n) zero x at = ap memory_line (omega arith) ∙ some_same at
passed_at k (suc n) (suc j) x at = ap memory_line (omega arith) ∙ passed_at (k + 1) n j x at

pub passed_count : (k n : ℕ) → fault_count k (no_memory k n) ≡ 0
passed_count k zero = refl
passed_count k (suc n) =
    let rest = passed_count (k + 1) n in
    let first : fault_count k (no_memory k (suc n)) ≡ 0 + fault_count (k + 1) (no_memory (k + 1) n) = ap (λ (b : Bool). (if b then 1 else 0) + fault_count (k + 1) (no_memory (k + 1) n)) (memory_quiet k k) in
    omega (arith, first, rest)
