-- Why templates are answered no further.
use Rattle.std.specs.Prelude.{Result, Ok, Err}
use Rattle.gd_journal.specs.declared.fault.JournalFault.{JournalFault}
use Rattle.gd_journal.specs.declared.fault.JournalFault.TheVariants as journal
use Rattle.gd_answering.specs.declared.stop.Stop.{Stop}
use Rattle.gd_answering.specs.Stops as answering
use Rattle.gd_patterns.specs.declared.stop.PatternStop.{PatternStop}
use Rattle.gd_patterns.specs.declared.stop.PatternStop.TheVariants as stop

-- how it ends where answering the lines ended so
abbrev pub ended_by : Result (Unit {0}) Stop → Result (Unit {0}) PatternStop
ended_by (Ok u) = Ok u
ended_by (Err s) = Err (stop.Stopped s)

-- all of the input was answered, no further line was read, it stopped at a line, or it was not begun
abbrev pub EndsAs : Result (Unit {0}) PatternStop → (whole between within idle : Type 0) → Type 0
EndsAs (Ok u) whole between within idle = whole
EndsAs (Err (stop.Unopened f)) whole between within idle = idle
EndsAs (Err (stop.Stopped s)) whole between within idle = answering.EndsAs (Err s) whole between within

-- where it was begun, and ended behind a line, it is so
abbrev pub IfBetween : Result (Unit {0}) PatternStop → Type 0 → Type 0
IfBetween end it = EndsAs end it it (Unit {0}) (Unit {0})

-- where the store was not opened it is so of the fault
abbrev pub IfUnopened : Result (Unit {0}) PatternStop → (JournalFault → Type 0) → Type 0
IfUnopened (Err (stop.Unopened f)) P = P f
IfUnopened _ P = Unit {0}

-- where the store was opened it is so
abbrev pub IfOpened : Result (Unit {0}) PatternStop → Type 0 → Type 0
IfOpened end it = EndsAs end it it it (Unit {0})

-- it stopped only where the cause is there
abbrev pub EndsBy : Result (Unit {0}) PatternStop → (read_failed sink_failed disk_failed is_long : Type 0) → Type 0
EndsBy (Ok u) read_failed sink_failed disk_failed is_long = Unit {0}
EndsBy (Err (stop.Unopened journal.DiskFault)) read_failed sink_failed disk_failed is_long = disk_failed
EndsBy (Err (stop.Unopened _)) read_failed sink_failed disk_failed is_long = Unit {0}
EndsBy (Err (stop.Stopped s)) read_failed sink_failed disk_failed is_long = answering.EndsBy (Err s) read_failed sink_failed is_long
