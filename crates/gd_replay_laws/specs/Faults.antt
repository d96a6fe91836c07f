-- Failures of the disk that a run of events tells, and the count that rose for them.
use Rattle.std.specs.Prelude.{◌≡◌, ℕ, List, [], true}
use Rattle.gd_base.specs.Counts.{Rose}
use Rattle.gd_runs.specs.Core.{Event, write}
use Rattle.gd_runs.specs.Explained.{pieces, tells_fault, fault_count}

-- a failure of the disk that the reply to line k tells was counted: the count rose from the first number to the second
abbrev pub IsCounted : ℕ → List ℕ → ℕ → ℕ → Type 0
IsCounted k reply before after = tells_fault k reply ≡ true → Rose before after

-- how many lines of an output tell a failure of the disk, where the first of them is the reply to line k
abbrev pub faults_from : ℕ → List ℕ → ℕ
faults_from k output = fault_count k (pieces [] output)

-- an event is no write
abbrev pub IsNoWrite : Event → Type 0
IsNoWrite (write i w) = ⊥
IsNoWrite _ = Unit {0}
