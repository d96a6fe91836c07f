-- What a sink holds of a dump.
use Rattle.std.specs.Prelude.{◌≤◌, ℕ, List}
use Rattle.std.specs.List.{AllByRecursion}
use Rattle.gd_prim.specs.declared.Batch.{Batch}
use Rattle.gd_prim.specs.WellFormed.{max_moment}
use Rattle.gd_base.specs.Counts.{Rose}
use Rattle.gd_dump.specs.declared.stop.DumpFault.{DumpFault}
use Rattle.gd_dump.specs.declared.stop.DumpFault.TheVariants as fault

-- the moment of each batch is one of a clock
abbrev pub AreEarly : List Batch → Type 0
AreEarly batches = AllByRecursion (λ b. b.moment ≤ max_moment) batches

-- why sending ends: the sink failed and its count rose, or there was no memory
abbrev pub IsEnd : ℕ → ℕ → DumpFault → Type 0
IsEnd before now fault.SinkFault = Rose before now
IsEnd before now fault.Memory = Unit {0}
IsEnd before now (fault.DumpFrom asked have) = ⊥
