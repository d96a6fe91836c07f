-- The write lines of a round.
use Rattle.std.proofs.Common.{◌≡◌, refl, ℕ, zero, suc, ◌^◌, ◌<◌, ◌≤◌, List, [], ◌∷◌, map, Some, slice_get, ap, arith}
use Rattle.std.specs.List.{AllByRecursion}
use Rattle.gd_runs.specs.Side as side
use Rattle.gd_runs.proofs.Rounds.{no_some, some_same}
use Rattle.gd_round_lines.specs.declared.work.WriteLine.{WriteLine}
use Rattle.gd_round_lines.specs.Works.{write_of, IsWriteWithin, MayBeWritten}
use Rattle.gd_round_lines.proofs.Read.{all_weaker, all_at}

pub may_be_written : (first end : ℕ) (ws : List WriteLine) → end ≤ 2 ^ 63 → AllByRecursion (IsWriteWithin first end) ws → AllByRecursion MayBeWritten ws
may_be_written first end ws bound all = all_weaker (IsWriteWithin first end) MayBeWritten ws (λ w is. let high = is.1 in (is.2, omega (arith, high, bound))) all

pub written_back : (ws : List WriteLine) (x : ℕ) (a : side.WriteLine) → slice_get (map write_of ws) x ≡ Some a → (w : WriteLine) × (slice_get ws x ≡ Some w) × (write_of w ≡ a)
written_back [] x a at = no_some at
written_back (w ∷ ws) zero a at = (w, refl, some_same at)
written_back (w ∷ ws) (suc x) a at = written_back ws x a at

pub lines_within : (first end : ℕ) (ws : List WriteLine) (x : ℕ) (a : side.WriteLine) → AllByRecursion (IsWriteWithin first end) ws → slice_get (map write_of ws) x ≡ Some a → (first ≤ a.line) × (a.line < end)
lines_within first end ws x a all at =
    let (w, at_w, is) = written_back ws x a at in
    let in_it = all_at (IsWriteWithin first end) ws x w all at_w in
    let low = in_it.0 in
    let high = in_it.1 in
    let line = ap (λ (b : side.WriteLine). b.line) is in
    (omega (arith, low, line), omega (arith, high, line))
