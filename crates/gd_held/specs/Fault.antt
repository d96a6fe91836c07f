-- Why a frozen text is not thawed, as the definitions have it.
use Rattle.std.specs.Prelude.{ℕ, ◌<◌, ◌^◌, [], codes}
use Rattle.gd_defs.specs.Asked as defs
use Rattle.gd_defs.specs.Lines.{Refusal, refusal, cursor_ahead}
use Rattle.gd_defs.specs.Reply.{unknown_refusal}
use Rattle.gd_runs.specs.Core.{bad_frozen}
use Rattle.gd_fault.specs.Fault.{code_view}
use Rattle.gd_held.specs.declared.fault.ThawFault.{ThawFault}
use Rattle.gd_held.specs.declared.fault.ThawFault.TheVariants as fault

-- the refusal that a fault is, with its dateline, where the latest one is this; want of memory is none, and what it is here tells nothing
abbrev pub fault_at : ℕ → ThawFault → ℕ × Refusal
fault_at latest (fault.BadFrozen offset) = (latest, bad_frozen offset)
fault_at latest (fault.CursorAhead asked have) = (latest, cursor_ahead asked have)
fault_at latest (fault.BadQuery dateline code path) = (dateline, unknown_refusal (defs.bad_query (code_view code) path))
fault_at latest (fault.NoSuchId dateline path) = (dateline, unknown_refusal (defs.no_such_id path))
fault_at latest (fault.NoSuchProperty dateline path) = (dateline, unknown_refusal (defs.no_such_property path))
fault_at latest fault.Memory = (latest, refusal (codes "Memory") [])

-- an offset that it tells is one of a text
abbrev pub HasOffset : ThawFault → Type 0
HasOffset (fault.BadFrozen offset) = offset < 2 ^ 63
HasOffset _ = Unit {0}
