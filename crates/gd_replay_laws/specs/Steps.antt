-- What an event comes to, over a file that is told or not.
use Rattle.std.specs.Prelude.{◌≡◌, ℕ, List, length, Bool, IsTrue, ◌⊎◌, codes}
use Rattle.gd_prim.specs.declared.Batch.{Batch}
use Rattle.gd_runs.specs.Owed.{MembersOf}
use Rattle.gd_runs.specs.Explained.{memory_line}
use Rattle.gd_runs.specs.Core.{Event, reopen, State, Step, ReopenStep, opened, said}
use Rattle.gd_runs.specs.Replay.{LacksMemory}

-- opening again prints a line and makes a state: that of a store that was opened with some batches, whose number the line tells; where the file is told, it is the core's step
abbrev pub ReopenOver : Bool → State → ℕ → List ℕ → State → Type 0
ReopenOver told s k line t = (IsTrue told → ReopenStep s k line t) × ((loaded : List Batch) × (line ≡ said (length loaded) k (codes "reopened")) × (t ≡ opened loaded))

-- an event of line k, of so many bytes, prints a line and makes a state, over a file that is told or not: opening again is as the file is told, and each other event is a step
abbrev pub StepOver : Bool → MembersOf → (ℕ → Bool) → State → ℕ → ℕ → Event → List ℕ → State → Type 0
StepOver told members may s k bytes reopen line t = ReopenOver told s k line t
StepOver told members may s k bytes e line t = Step members may s k bytes e line t

-- an event does so, or no memory was found for it
abbrev pub Takes : Bool → MembersOf → (ℕ → Bool) → State → ℕ → ℕ → Event → List ℕ → State → Type 0
Takes told members may s k bytes e line t = StepOver told members may s k bytes e line t ⊎ ((line ≡ memory_line k) × LacksMemory s e t)
