-- The writes under the lock of a round, one after another.
use Rattle.std.specs.Prelude.{◌≡◌, ℕ, ◌+◌, ◌≤◌, ◌⊎◌, List, [], ◌∷◌, ◌++◌, cond, Bool, Some, slice_get}
use Rattle.gd_runs.specs.Legal.{Entry, size}
use Rattle.gd_runs.specs.Core.{State}
use Rattle.gd_runs.specs.Side.{Kept, Told, WriteLine, Begun, session_lines, is_fault, IsLeft, WriteKeeps, told_of, KeepsHistory, KeepsRound}

-- something is kept of a line
abbrev pub HasOutcome : List Told → ℕ → Type 0
HasOutcome outcomes k = (i : ℕ) × (t : Told) × (slice_get outcomes i ≡ Some t) × (t.line ≡ k)

-- the count of faults that a write leaves: it rises where the write tells one, and stays at its most
pub record FaultsMore (kept : Kept) (faults more most : ℕ) : Type 0 where
  pub rises : (faults + cond (is_fault kept) 1 0 ≤ more) ⊎ (more ≡ most)
  pub stays : faults ≡ most → more ≡ most

-- Writes of lines of the round in any order, but that of each session in the order of its lines: from one state, with a count of faults and outcomes, to another.
pub data LockRun (may : ℕ → Bool) (l : Begun) (most : ℕ) : State → ℕ → List Told → State → ℕ → List Told → Type 0 where
  joined : (s : State) (faults : ℕ) (outcomes : List Told) → LockRun may l most s faults outcomes s faults outcomes
  writes : (s : State) (faults : ℕ) (outcomes : List Told) (x : ℕ) (a : WriteLine) (kept : Kept) (m : State) (more : ℕ) (t : State) (end : ℕ) (outs : List Told)
      → slice_get l.lines x ≡ Some a → IsLeft outcomes a.line
      → ((q n : ℕ) → slice_get (session_lines l a.session) (q + 1) ≡ Some a.line → slice_get (session_lines l a.session) q ≡ Some n → HasOutcome outcomes n)
      → WriteKeeps may s a.line a.bytes a.request kept m → FaultsMore kept faults more most → LockRun may l most m more (outcomes ++ told_of a.line kept ∷ []) t end outs → LockRun may l most s faults outcomes t end outs

-- what the lock keeps after a write
pub record LockKeeps (may : ℕ → Bool) (l : Begun) (end : ℕ) (u : State) (more : ℕ) (outs : List Told) : Type 0 where
  pub entries : List Entry
  pub history : KeepsHistory may u.history u.doubt outs
  pub lock : KeepsRound l u.history u.shown u.doubt more end outs entries
  pub most : u.shown ≤ size u.history
