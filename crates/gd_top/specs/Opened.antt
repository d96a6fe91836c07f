-- A run over a store that was opened, on the way.
use Rattle.std.specs.Prelude.{◌≡◌, ℕ, List, Bool, true}
use Rattle.gd_prim.specs.Builtin.{builtin}
use Rattle.gd_prim.specs.WellFormed.{all_follow}
use Rattle.gd_runs.specs.Core as core
use Rattle.gd_runs.specs.Core.{State}
use Rattle.gd_runs.specs.Legal.{History}
use Rattle.gd_runs.specs.Explained.{Run, Holds}
use Rattle.gd_threads.specs.PassedOn.{StandsForState}
use Rattle.gd_threads.specs.Served.{RoundsValue, state_at}

-- what stands for a state of the core stands for this history, with or without the one write that is in doubt
abbrev pub HoldsAs : (ℕ → Bool) → State → History → List Run → Type 0
HoldsAs may s h runs = Holds may h runs (StandsForState s)

-- the run is before its first line, over a store that was just opened, whose batches may follow one another
pub record IsAtStart {D C : Type 0} (r : RoundsValue D C) : Type 0 where
  pub none : r.lines ≡ 0
  pub opened : state_at r.side ≡ core.opened r.side.history.loaded
  pub follow : all_follow builtin 0 r.side.history.loaded ≡ true
