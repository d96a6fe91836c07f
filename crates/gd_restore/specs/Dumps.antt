-- What a run came to that dumps the store of a disk.
use Rattle.std.specs.Prelude.{◌≡◌, ℕ, List, Option, Result, Ok, Err}
use Rattle.std.specs.Option.{ForSome}
use Rattle.gd_prim.specs.declared.Batch.{Batch}
use Rattle.gd_bytes.specs.File.{StandsFor}
use Rattle.gd_dump_laws.specs.Dumping.{Dumps, DumpsFront, StartsBehind}
use Rattle.gd_journal.specs.declared.fault.JournalFault.{JournalFault}
use Rattle.gd_journal.specs.declared.fault.JournalFault.TheVariants as journal
use Rattle.gd_outside.specs.declared.Failed.{Failed}
use Rattle.gd_restore.specs.declared.stop.DumpStop.{DumpStop}
use Rattle.gd_restore.specs.declared.stop.DumpStop.TheVariants as stop

-- where the content is told, it stands for these batches
abbrev pub Loads : Option (List ℕ) → List Batch → Type 0
Loads told loaded = ForSome told (λ file. StandsFor file loaded)

-- what the sink gained, by how the run ended; `still` where it was left alone
abbrev pub DumpsAs : Result (Unit {0}) DumpStop → (begins : List Batch → Type 0) → (from : ℕ) → (old new : Option (List ℕ)) → (still : Type 0) → Type 0
DumpsAs (Ok u) begins from old new still = Dumps begins from old new
DumpsAs (Err stop.SinkFault) begins from old new still = DumpsFront begins from old new
DumpsAs (Err stop.Memory) begins from old new still = DumpsFront begins from old new
DumpsAs (Err (stop.DumpFrom asked have)) begins from old new still = StartsBehind begins from asked have × still
DumpsAs (Err (stop.Unopened f)) begins from old new still = still

-- a fault of the sink and one of the disk come only where there is a cause
abbrev pub DumpsBy : Result (Unit {0}) DumpStop → (sink_failed disk_failed : Type 0) → Type 0
DumpsBy (Err stop.SinkFault) sink_failed disk_failed = sink_failed
DumpsBy (Err (stop.Unopened journal.DiskFault)) sink_failed disk_failed = disk_failed
DumpsBy _ sink_failed disk_failed = Unit {0}

-- where the store was not opened, its fault says this
abbrev pub IfNotOpened : Result (Unit {0}) DumpStop → (JournalFault → Type 0) → Type 0
IfNotOpened (Err (stop.Unopened f)) says = says f
IfNotOpened _ says = Unit {0}

-- a dump that was sent on, or not
abbrev pub IsSentOn : Result (Unit {0}) Failed → Result (Unit {0}) DumpStop → Type 0
IsSentOn (Ok u) result = result ≡ Ok u
IsSentOn (Err failed) result = result ≡ Err stop.SinkFault
