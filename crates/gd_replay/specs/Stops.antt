-- How a run of events goes on, and why it stops.
use Rattle.std.specs.Prelude.{◌≡◌, ℕ, ◌+◌, ◌≤◌, List, Bool, Option, Result, Ok, Err}
use Rattle.std.specs.Option.{is_some}
use Rattle.gd_base.specs.Counts.{Rose, RoseBy}
use Rattle.gd_outside.specs.declared.Failed.{Failed}
use Rattle.gd_input.specs.declared.fault.InputFault.{InputFault}
use Rattle.gd_input.specs.declared.fault.InputFault.TheVariants as input
use Rattle.gd_journal.specs.declared.fault.JournalFault.{JournalFault}
use Rattle.gd_journal.specs.declared.fault.JournalFault.TheVariants as journal
use Rattle.gd_runs.specs.Legal.{batches}
use Rattle.gd_runs.specs.Core.{State}
use Rattle.gd_sessions.specs.PassedOn.{Tells, SideValue}
use Rattle.gd_sessions.specs.Running.{StandsForState}
use Rattle.gd_replay.specs.declared.stop.Stop.{Stop}
use Rattle.gd_replay.specs.declared.stop.Stop.TheVariants as stop
use Rattle.gd_replay.specs.Kept.{Grows, IsHindrance}

-- what a fault of the input stops a run by
abbrev pub stop_of : InputFault → Stop
stop_of input.Failed = stop.ReadFault
stop_of input.TooMuch = stop.TooMuch
stop_of input.Memory = stop.Memory

-- all that a stop leaves stands for a state
abbrev pub Leaves : (List ℕ → Type 0) → State → Type 0
Leaves images s = (file : List ℕ) → images file → StandsForState s file

-- all that stands for the state afterwards stands for the one before
abbrev pub StandsBefore : (before after : State) → Type 0
StandsBefore before after = (file : List ℕ) → StandsForState after file → StandsForState before file

-- The clock goes on to give the same moments, the disk goes on to tell its content, its count does not fall, and a disk that tells its content keeps the batches that there were.
pub record GoesAlong {D C : Type 0} (content : D → Option (List ℕ)) (faults : D → ℕ) (may : C → ℕ → Bool) (old new : SideValue D C) : Type 0 where
  pub clock : may new.clock ≡ may old.clock
  pub told : is_some (content new.log.disk) ≡ is_some (content old.log.disk)
  pub later : faults old.log.disk ≤ faults new.log.disk
  pub grows : Tells (content old.log.disk) → Grows (batches old.history) (batches new.history)

-- A store was not opened again over its disk: it failed where its count rose, and a disk that tells its content goes on to tell it, holds what it held, and is lost by a hindrance alone.
pub record IsLost {D : Type 0} (content : D → Option (List ℕ)) (images : D → List ℕ → Type 0) (faults : D → ℕ) (old : D) (s : State) (fault : JournalFault) (new : D) : Type 0 where
  pub cause : fault ≡ journal.DiskFault → Rose (faults old) (faults new)
  pub holds : Tells (content old) → Leaves (images new) s
  pub told : is_some (content new) ≡ is_some (content old)
  pub hindered : Tells (content old) → IsHindrance fault
  pub later : faults old ≤ faults new

-- a reply stops a run where it is not printed: the sink failed, or there was no memory for it
abbrev pub IsHalt : Stop → (sink_failed unmade : Type 0) → Type 0
IsHalt stop.SinkFault sink_failed unmade = sink_failed
IsHalt stop.Memory sink_failed unmade = unmade
IsHalt _ sink_failed unmade = ⊥

-- a line stops a run so, or for the store that was not opened again
abbrev pub IsCaused : Stop → (sink_failed disk_failed : Type 0) → Type 0
IsCaused stop.SinkFault sink_failed disk_failed = sink_failed
IsCaused stop.Memory sink_failed disk_failed = Unit {0}
IsCaused (stop.Lost journal.DiskFault) sink_failed disk_failed = disk_failed
IsCaused (stop.Lost _) sink_failed disk_failed = Unit {0}
IsCaused _ sink_failed disk_failed = ⊥

-- how many failures of the disk an end is itself
abbrev pub end_faults : Result (Unit {0}) Stop → ℕ
end_faults (Err (stop.Lost journal.DiskFault)) = 1
end_faults (Err (stop.Unopened journal.DiskFault)) = 1
end_faults _ = 0

-- over a run that ended so the count rose by so many, and by the failure that the end is itself, or stands at its type's end
abbrev pub RoseWith : ℕ → ℕ → Result (Unit {0}) Stop → ℕ → Type 0
RoseWith before now end n = RoseBy before now (n + end_faults end)

-- a run has read all of its input, has stopped between two lines, has stopped at a line, or was not begun
abbrev pub EndsAs : Result (Unit {0}) Stop → (whole between within idle : Type 0) → Type 0
EndsAs (Ok u) whole between within idle = whole
EndsAs (Err stop.ReadFault) whole between within idle = between
EndsAs (Err stop.TooMuch) whole between within idle = between
EndsAs (Err (stop.Lost f)) whole between within idle = between
EndsAs (Err stop.SinkFault) whole between within idle = within
EndsAs (Err stop.Memory) whole between within idle = between
EndsAs (Err (stop.Unopened f)) whole between within idle = idle

-- where the store was not opened it is so
abbrev pub IfUnopened : Result (Unit {0}) Stop → Type 0 → Type 0
IfUnopened (Err (stop.Unopened f)) idle = idle
IfUnopened _ idle = Unit {0}

-- a run has stopped only where its cause is there
abbrev pub EndsBy : Result (Unit {0}) Stop → (read_failed sink_failed disk_failed is_long : Type 0) → Type 0
EndsBy (Err stop.ReadFault) read_failed sink_failed disk_failed is_long = read_failed
EndsBy (Err stop.TooMuch) read_failed sink_failed disk_failed is_long = is_long
EndsBy (Err stop.SinkFault) read_failed sink_failed disk_failed is_long = sink_failed
EndsBy (Err (stop.Lost journal.DiskFault)) read_failed sink_failed disk_failed is_long = disk_failed
EndsBy (Err (stop.Unopened journal.DiskFault)) read_failed sink_failed disk_failed is_long = disk_failed
EndsBy _ read_failed sink_failed disk_failed is_long = Unit {0}

-- how a run ends whose output was sent on or was not
abbrev pub EndsSent : Result (Unit {0}) Stop → Result (Unit {0}) Failed → Result (Unit {0}) Stop → Type 0
EndsSent (Ok u) (Ok v) result = result ≡ Ok u
EndsSent (Ok u) (Err failed) result = result ≡ Err stop.SinkFault
EndsSent (Err s) sent result = result ≡ Err s
