-- Whole rounds, one after another, and what stands between two of them.
use Rattle.std.specs.Prelude.{◌≡◌, ℕ, zero, suc, ◌+◌, ◌<◌, List, [], ◌∷◌, ◌++◌, length, Bool, Some, slice_get}
use Rattle.gd_prim.specs.declared.Batch.{Batch}
use Rattle.gd_bytes.specs.File.{MayStandFor}
use Rattle.gd_runs.specs.Legal.{batches}
use Rattle.gd_runs.specs.Explained.{Numbered, Run, IsExplainedBy, Holds, memory_line}
use Rattle.gd_runs.specs.Core.{State}
use Rattle.gd_runs.specs.Side.{doubt_groups}
use Rattle.gd_core_laws.specs.Round.{StandsAt}
use Rattle.gd_core_laws.specs.Threads.{RoundServed}

-- the lines of a round, the first of them line k, print this from one state to the next, whatever was served before
abbrev pub ServesRound : (ℕ → Bool) → State → ℕ → ℕ → List Numbered → List ℕ → State → Type 0
ServesRound may s k round given output t = (loaded : List Batch) (before : List Numbered) (printed : List ℕ) (runs : List Run) → length runs ≡ k → StandsAt loaded may before printed s.history s.shown s.doubt runs
    → (more : List Run) × RoundServed may s runs round given output t more

-- The rounds before this one were served: they had these lines and printed this, and what stands between two rounds stands behind them.
pub record RoundsStand (loaded : List Batch) (may : ℕ → Bool) (s : State) (round : ℕ) (given : List Numbered) (output : List ℕ) : Type 0 where
  pub runs : List Run
  pub stands : StandsAt loaded may given output s.history s.shown s.doubt runs
  pub earlier : (i : ℕ) (l : Numbered) → slice_get given i ≡ Some l → l.round < round

-- The history of a state explains what these lines printed, and all that stands for the state stands for it, with or without a write that is in doubt.
pub record IsAccounted (loaded : List Batch) (may : ℕ → Bool) (s : State) (given : List Numbered) (output : List ℕ) : Type 0 where
  pub runs : List Run
  pub explained : IsExplainedBy loaded may given output s.history runs
  pub holds : Holds may s.history runs (MayStandFor (batches s.history) (doubt_groups s.doubt))

-- what is printed for so many lines that were not run for want of memory, the first of them line k
abbrev pub passed : ℕ → ℕ → List ℕ
passed k zero = []
passed k (suc count) = memory_line k ++ 10 ∷ passed (k + 1) count
