-- What holds of the core and the lines so far: their history explains them, what is shown takes in all that was told, and a group in doubt is of one of them.
use Rattle.std.specs.Prelude.{◌≡◌, ℕ, ◌≤◌, List, length, Bool, Option, Some, None, slice_get}
use Rattle.gd_prim.specs.declared.Batch.{Batch}
use Rattle.gd_runs.specs.Legal.{Entry, History, size, IsEntryAfter}
use Rattle.gd_runs.specs.Explained.{Numbered, Run, IsExplainedBy, IsOldDoubt, MayBe, session_of, told_dateline}
use Rattle.gd_runs.specs.Core.{State}

-- a group in doubt is of a line that printed so, and would be the next entry of the history
pub record IsDoubtOf (may : ℕ → Bool) (h : History) (runs : List Run) (entry : Entry) : Type 0 where
  pub run : Run
  pub old : IsOldDoubt h runs entry run
  pub after : IsEntryAfter h entry
  pub moment : MayBe may entry.moment

-- no group is in doubt, or this one is
abbrev pub IsDoubted : (ℕ → Bool) → History → List Run → Option Entry → Type 0
IsDoubted may h runs None = Unit {0}
IsDoubted may h runs (Some e) = IsDoubtOf may h runs e

-- The history of the core explains what was printed for the lines so far. What is shown has the loaded batches and all that was told, each session has seen what it was told, and a group in doubt is of one of these lines.
pub record IsServed (loaded : List Batch) (may : ℕ → Bool) (given : List Numbered) (output : List ℕ) (s : State) (runs : List Run) : Type 0 where
  pub explained : IsExplainedBy loaded may given output s.history runs
  pub least : length s.history.loaded ≤ s.shown
  pub most : s.shown ≤ size s.history
  pub told : (k : ℕ) (r : Run) (d : ℕ) → slice_get runs k ≡ Some r → told_dateline r.line.bytes r.outcome ≡ Some d → d ≤ s.shown
  pub within : (i : ℕ) → (s.sessions i).seen ≤ s.shown
  pub seen : (i k : ℕ) (r : Run) (d : ℕ) → slice_get runs k ≡ Some r → session_of r.line.bytes ≡ Some i → told_dateline r.line.bytes r.outcome ≡ Some d → d ≤ (s.sessions i).seen
  pub doubted : IsDoubted may s.history runs s.doubt
