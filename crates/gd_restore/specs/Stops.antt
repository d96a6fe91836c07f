-- What faults stop a run by.
use Rattle.gd_dump.specs.declared.stop.DumpFault.{DumpFault}
use Rattle.gd_dump.specs.declared.stop.DumpFault.TheVariants as written
use Rattle.gd_input.specs.declared.fault.InputFault.{InputFault}
use Rattle.gd_input.specs.declared.fault.InputFault.TheVariants as input
use Rattle.gd_journal.specs.declared.fault.JournalFault.{JournalFault}
use Rattle.gd_journal.specs.declared.fault.JournalFault.TheVariants as journal
use Rattle.gd_restore.specs.declared.stop.DumpStop.{DumpStop}
use Rattle.gd_restore.specs.declared.stop.DumpStop.TheVariants as dump
use Rattle.gd_restore.specs.declared.stop.RestoreStop.{RestoreStop}
use Rattle.gd_restore.specs.declared.stop.RestoreStop.TheVariants as restore

-- what a fault of writing a dump stops a run by
abbrev pub stop_of_dump : DumpFault → DumpStop
stop_of_dump (written.DumpFrom asked have) = dump.DumpFrom asked have
stop_of_dump written.SinkFault = dump.SinkFault
stop_of_dump written.Memory = dump.Memory

-- what a fault of the input stops a run by
abbrev pub stop_of_input : InputFault → RestoreStop
stop_of_input input.Failed = restore.ReadFault
stop_of_input input.TooMuch = restore.TooMuch
stop_of_input input.Memory = restore.Memory

-- what a fault of an append stops a run by
abbrev pub stop_of_append : JournalFault → RestoreStop
stop_of_append journal.DiskFault = restore.DiskFault
stop_of_append _ = restore.Memory
