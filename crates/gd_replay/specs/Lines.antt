-- What is told of a line that is no event.
use Rattle.std.specs.Prelude.{◌≡◌, ◌≢◌, ◌⊎◌, ℕ, List}
use Rattle.gd_fault.specs.declared.fault.LineFault.{LineFault}
use Rattle.gd_fault.specs.declared.fault.LineFault.TheVariants as fault
use Rattle.gd_mql.specs.Line.{fault_view}
use Rattle.gd_runs.specs.Explained.{memory_line}
use Rattle.gd_runs.specs.Input.{input_fault_line, line_too_long}

-- line k is refused as too long, or there was no memory for that
abbrev pub TellsTooLong : ℕ → List ℕ → Type 0
TellsTooLong k reply = (reply ≡ input_fault_line k line_too_long) ⊎ (reply ≡ memory_line k)

-- line k is refused for this fault, or there was no memory for that
abbrev pub TellsFault : ℕ → LineFault → List ℕ → Type 0
TellsFault k f reply = ((f ≢ fault.Memory) × (reply ≡ input_fault_line k (fault_view f))) ⊎ (reply ≡ memory_line k)
