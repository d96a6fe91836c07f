-- Why a run stops, and why it does not begin, on the way.
use Rattle.std.specs.Prelude.{Result, Ok, Err}
use Rattle.gd_input.specs.declared.fault.InputFault.{InputFault}
use Rattle.gd_input.specs.declared.fault.InputFault.TheVariants as input
use Rattle.gd_disk.specs.declared.shelf.ShelfFault.{ShelfFault}
use Rattle.gd_disk.specs.declared.shelf.ShelfFault.TheVariants as shelf
use Rattle.gd_journal.specs.declared.fault.JournalFault.{JournalFault}
use Rattle.gd_journal.specs.declared.fault.JournalFault.TheVariants as journal
use Rattle.gd_replay.specs.declared.stop.Stop.{Stop as EventStop}
use Rattle.gd_replay.specs.declared.stop.Stop.TheVariants as events
use Rattle.gd_answering.specs.declared.stop.Stop.{Stop as AnswerStop}
use Rattle.gd_answering.specs.declared.stop.Stop.TheVariants as answers
use Rattle.gd_following.specs.declared.stop.FollowStop.{FollowStop}
use Rattle.gd_following.specs.declared.stop.FollowStop.TheVariants as follows
use Rattle.gd_patterns.specs.declared.stop.PatternStop.{PatternStop}
use Rattle.gd_patterns.specs.declared.stop.PatternStop.TheVariants as patterns
use Rattle.gd_restore.specs.declared.stop.DumpStop.{DumpStop}
use Rattle.gd_restore.specs.declared.stop.DumpStop.TheVariants as dump
use Rattle.gd_restore.specs.declared.stop.RestoreStop.{RestoreStop}
use Rattle.gd_restore.specs.declared.stop.RestoreStop.TheVariants as restore
use Rattle.gd_top.specs.declared.stop.Stop.{Stop}
use Rattle.gd_top.specs.declared.stop.Stop.TheVariants as stop
use Rattle.gd_top.specs.declared.status.Status.{Status}
use Rattle.gd_top.specs.declared.status.Status.TheVariants as status

-- what a fault of the input stops it by
abbrev pub stop_of : InputFault → Stop
stop_of input.Failed = stop.ReadFault
stop_of input.TooMuch = stop.TooMuch
stop_of input.Memory = stop.Memory

-- the status of a run that stopped so
abbrev pub status_of : Stop → Status
status_of stop.ReadFault = status.ReadFault
status_of stop.SinkFault = status.SinkFault
status_of stop.Memory = status.Memory
status_of stop.TooMuch = status.TooMuch

-- the status of a run whose file the shelf did not open
abbrev pub status_of_shelf : ShelfFault → Status
status_of_shelf shelf.Failed = status.DiskFault
status_of_shelf shelf.Memory = status.Memory

-- the status of a run whose store was not opened
abbrev pub status_of_store : JournalFault → Status
status_of_store journal.DiskFault = status.DiskFault
status_of_store journal.NotStore = status.NotStore
status_of_store (journal.Damaged offset) = status.Damaged offset
status_of_store journal.Memory = status.Memory

-- the status of a run of events that ended so
abbrev pub status_of_events : Result (Unit {0}) EventStop → Status
status_of_events (Ok u) = status.Done
status_of_events (Err events.ReadFault) = status.ReadFault
status_of_events (Err events.SinkFault) = status.SinkFault
status_of_events (Err events.Memory) = status.Memory
status_of_events (Err events.TooMuch) = status.TooMuch
status_of_events (Err (events.Unopened f)) = status_of_store f
status_of_events (Err (events.Lost f)) = status_of_store f

-- the status of a dump that ended so
abbrev pub status_of_dump : Result (Unit {0}) DumpStop → Status
status_of_dump (Ok u) = status.Done
status_of_dump (Err dump.SinkFault) = status.SinkFault
status_of_dump (Err dump.Memory) = status.Memory
status_of_dump (Err (dump.DumpFrom asked have)) = status.DumpFrom asked have
status_of_dump (Err (dump.Unopened f)) = status_of_store f

-- the status of a run that restored a text and ended so
abbrev pub status_of_restore : Result (Unit {0}) RestoreStop → Status
status_of_restore (Ok u) = status.Done
status_of_restore (Err restore.ReadFault) = status.ReadFault
status_of_restore (Err restore.TooMuch) = status.TooMuch
status_of_restore (Err restore.Memory) = status.Memory
status_of_restore (Err restore.DiskFault) = status.DiskFault
status_of_restore (Err (restore.BadDump offset)) = status.BadDump offset
status_of_restore (Err (restore.DumpFrom asked have)) = status.DumpFrom asked have
status_of_restore (Err (restore.Unfit batch)) = status.Unfit batch
status_of_restore (Err (restore.Unopened f)) = status_of_store f

-- the status of a run that stopped so while it answered lines
abbrev pub status_of_answers : AnswerStop → Status
status_of_answers answers.ReadFault = status.ReadFault
status_of_answers answers.SinkFault = status.SinkFault
status_of_answers answers.Memory = status.Memory
status_of_answers answers.TooMuch = status.TooMuch

-- the status of a run of templates that ended so
abbrev pub status_of_patterns : Result (Unit {0}) PatternStop → Status
status_of_patterns (Ok u) = status.Done
status_of_patterns (Err (patterns.Stopped s)) = status_of_answers s
status_of_patterns (Err (patterns.Unopened f)) = status_of_store f

-- the status of a run of a node that ended so
abbrev pub status_of_follow : Result (Unit {0}) FollowStop → Status
status_of_follow (Ok u) = status.Done
status_of_follow (Err (follows.Stopped s)) = status_of_answers s
status_of_follow (Err (follows.Unopened f)) = status_of_store f
