-- Faults of a write among those of the definitions.
use Rattle.std.specs.Prelude.{◌<◌, ◌^◌}
use Rattle.gd_carry.specs.declared.fault.ChangeFault.{ChangeFault}
use Rattle.gd_carry.specs.declared.fault.ChangeFault.TheVariants as fault
pub use Rattle.gd_carry.specs.Outcome.{GivesChange, fault_of}

-- a count that it tells is a number of JSON
abbrev pub IsSmall : ChangeFault → Type 0
IsSmall (fault.Full what count) = count < 2 ^ 63
IsSmall _ = Unit {0}
