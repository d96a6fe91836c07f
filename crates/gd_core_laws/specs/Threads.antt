-- Rounds on threads: what each of them was, from one state of the side to the next.
use Rattle.std.specs.Prelude.{◌≡◌, ◌⊎◌, ℕ, ◌+◌, ◌≤◌, List, [], ◌∷◌, ◌++◌, length, map, flat_map, Bool, Some, slice_get}
use Rattle.gd_runs.specs.Legal.{Entry, size}
use Rattle.gd_runs.specs.Explained.{Numbered, Run, answered}
use Rattle.gd_runs.specs.Core.{State}
use Rattle.gd_runs.specs.Side.{Told, KeepsRound, KeepsHistory}
use Rattle.gd_core_laws.specs.Round.{write_lines, LineCame, begun_at}
use Rattle.gd_core_laws.specs.Writes.{CallerWrites}

-- A round after these lines, from one state of the side to the next: entries may be shown first; the lock keeps what it keeps until the workers are joined; the caller writes what is left; and each line came to something and printed it.
pub record RoundServed (may : ℕ → Bool) (s : State) (runs : List Run) (round : ℕ) (given : List Numbered) (output : List ℕ) (t : State) (more : List Run) : Type 0 where
  pub here : (j : ℕ) (l : Numbered) → slice_get given j ≡ Some l → l.round ≡ round
  -- what is shown when the round begins: all that was stored before, or, where there was no memory to show more, what was shown before; and the disk's count then
  pub shown : ℕ
  pub above : s.shown ≤ shown
  pub below : shown ≤ size s.history
  pub shows : (shown ≡ size s.history) ⊎ (shown ≡ s.shown)
  pub faults : ℕ
  -- the side that is taken out of the lock; the disk's count then, up to the number at which the lock lets a count stay, and that number
  pub joined : State
  pub joined_faults : ℕ
  pub joined_most : ℕ
  pub at_join : List Told
  pub new : List Entry
  pub history : KeepsHistory may joined.history joined.doubt at_join
  pub lock : KeepsRound (begun_at s.history shown s.doubt faults (length runs) given) joined.history joined.shown joined.doubt joined_faults joined_most at_join new
  pub most : joined.shown ≤ size joined.history
  -- the caller's writes
  pub outcomes : List Told
  pub caller : CallerWrites may joined at_join (write_lines (length runs) given) t outcomes
  -- the lines
  pub lines : map (λ r. r.line) more ≡ given
  pub replies : output ≡ flat_map (λ r. r.reply ++ 10 ∷ []) more
  pub came : (j : ℕ) (r : Run) → slice_get more j ≡ Some r → LineCame (length s.history.loaded) (runs ++ more) t.history t.shown (write_lines (length runs) given) outcomes (length runs + j) r
  -- a read is answered, by a worker or by the caller, at a number that is not below what was shown when the round began
  pub reads : (j m : ℕ) (r : Run) → slice_get more j ≡ Some r → r.outcome ≡ answered m → shown ≤ m

-- rounds, each with its lines, the first of them round n
abbrev pub RoundsServed : (ℕ → Bool) → State → List Run → ℕ → List (List Numbered) → List ℕ → State → Type 0
RoundsServed may s runs n [] output t = (output ≡ []) × (t ≡ s)
RoundsServed may s runs n (given ∷ rounds) output t = (m : State) × (more : List Run) × (one : List ℕ) × (rest : List ℕ) × RoundServed may s runs n given one m more × (output ≡ one ++ rest) × RoundsServed may m (runs ++ more) (n + 1) rounds rest t
