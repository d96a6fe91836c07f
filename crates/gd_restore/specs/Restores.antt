-- What a run came to that restores a text to the store of a disk.
use Rattle.std.specs.Prelude.{◌≡◌, ℕ, ◌≤◌, List, [], ◌∷◌, Option, Result, Ok, Err, IfErr}
use Rattle.std.specs.Option.{is_some}
use Rattle.gd_base.specs.Counts.{Rose}
use Rattle.gd_prim.specs.declared.Batch.{Batch}
use Rattle.gd_bytes.specs.File.{MayStandFor}
use Rattle.gd_dump_laws.specs.Restoring.{Restores, RestoresFront, RestoresDoubt, whole, bad, starts_elsewhere, unfit}
use Rattle.gd_journal.specs.declared.fault.JournalFault.{JournalFault}
use Rattle.gd_journal.specs.declared.fault.JournalFault.TheVariants as journal
use Rattle.gd_log.specs.Stored.{Stored}
use Rattle.gd_restore.specs.Gathered.{Tells}
use Rattle.gd_restore.specs.declared.stop.RestoreStop.{RestoreStop}
use Rattle.gd_restore.specs.declared.stop.RestoreStop.TheVariants as stop

-- where the disk tells its content, all that a stop leaves stands for this list, with all or none of each group in doubt behind it
abbrev pub Leaves : {D : Type 0} → (D → Option (List ℕ)) → (D → List ℕ → Type 0) → D → List Batch → List (List Batch) → Type 0
Leaves content images disk after doubt = Tells (content disk) → (file : List ℕ) → images disk file → MayStandFor after doubt file

-- a stop has made this of a list, by the text
abbrev pub StopsAs : RestoreStop → (List Batch → List (List Batch) → Type 0) → (list : List Batch) → (text : List ℕ) → (after : List Batch) → Type 0
StopsAs (stop.BadDump offset) leaves list text after = Restores list text (bad offset) after × leaves after []
StopsAs (stop.DumpFrom asked have) leaves list text after = Restores list text (starts_elsewhere asked have) after × leaves after []
StopsAs (stop.Unfit batch) leaves list text after = Restores list text (unfit batch) after × leaves after []
StopsAs stop.ReadFault leaves list text after = RestoresFront list text after × leaves after []
StopsAs stop.TooMuch leaves list text after = RestoresFront list text after × leaves after []
StopsAs stop.Memory leaves list text after = RestoresFront list text after × leaves after []
StopsAs stop.DiskFault leaves list text after = (group : List Batch) × RestoresDoubt list text after group × leaves after (group ∷ [])
StopsAs (stop.Unopened f) leaves list text after = ⊥

-- a run over an open store has made this of a list, by the text
abbrev pub EndsAs : Result (Unit {0}) RestoreStop → (List Batch → List (List Batch) → Type 0) → (list : List Batch) → (text : List ℕ) → (after : List Batch) → Type 0
EndsAs (Ok u) leaves list text after = Restores list text whole after × leaves after []
EndsAs (Err e) leaves list text after = StopsAs e leaves list text after

-- A run has made a list of one with which it may have begun.
pub record Ended (end : Result (Unit {0}) RestoreStop) (begins : List Batch → Type 0) (leaves : List Batch → List (List Batch) → Type 0) (text : List ℕ) : Type 0 where
  pub list : List Batch
  pub after : List Batch
  pub begun : begins list
  pub ends : EndsAs end leaves list text after

-- what a run came to, by the text; of a store that was not opened nothing is said here
abbrev pub RestoresAs : Result (Unit {0}) RestoreStop → (List Batch → Type 0) → (List Batch → List (List Batch) → Type 0) → (text : List ℕ) → Type 0
RestoresAs (Ok u) begins leaves text = Ended (Ok u) begins leaves text
RestoresAs (Err (stop.Unopened f)) begins leaves text = Unit {0}
RestoresAs (Err (stop.BadDump offset)) begins leaves text = Ended (Err (stop.BadDump offset)) begins leaves text
RestoresAs (Err (stop.DumpFrom asked have)) begins leaves text = Ended (Err (stop.DumpFrom asked have)) begins leaves text
RestoresAs (Err (stop.Unfit batch)) begins leaves text = Ended (Err (stop.Unfit batch)) begins leaves text
RestoresAs (Err stop.ReadFault) begins leaves text = Ended (Err stop.ReadFault) begins leaves text
RestoresAs (Err stop.TooMuch) begins leaves text = Ended (Err stop.TooMuch) begins leaves text
RestoresAs (Err stop.Memory) begins leaves text = Ended (Err stop.Memory) begins leaves text
RestoresAs (Err stop.DiskFault) begins leaves text = Ended (Err stop.DiskFault) begins leaves text

-- a stop over an open store that is none of the input; the disk stops a run only where it failed
abbrev pub IsHalt : RestoreStop → (disk_failed : Type 0) → Type 0
IsHalt stop.ReadFault disk_failed = ⊥
IsHalt stop.TooMuch disk_failed = ⊥
IsHalt (stop.Unopened f) disk_failed = ⊥
IsHalt stop.DiskFault disk_failed = disk_failed
IsHalt _ disk_failed = Unit {0}

-- What a call does to the disk of a log: its content is told as before, its count of faults never falls, and the disk stops it only where the count rose.
pub record ActsOn {D : Type 0} (content : D → Option (List ℕ)) (faults : D → ℕ) (result : Result (Unit {0}) RestoreStop) (old new : Stored D) : Type 0 where
  pub told : is_some (content new.log.disk) ≡ is_some (content old.log.disk)
  pub later : faults old.log.disk ≤ faults new.log.disk
  pub cause : IfErr result (λ stop. IsHalt stop (Rose (faults old.log.disk) (faults new.log.disk)))

-- a stop comes only where there is a cause
abbrev pub StopsBy : RestoreStop → (read_failed disk_failed is_long : Type 0) → Type 0
StopsBy stop.ReadFault read_failed disk_failed is_long = read_failed
StopsBy stop.TooMuch read_failed disk_failed is_long = is_long
StopsBy stop.DiskFault read_failed disk_failed is_long = disk_failed
StopsBy (stop.Unopened journal.DiskFault) read_failed disk_failed is_long = disk_failed
StopsBy _ read_failed disk_failed is_long = Unit {0}

-- where the store was not opened, its fault says this
abbrev pub IfNotOpened : Result (Unit {0}) RestoreStop → (JournalFault → Type 0) → Type 0
IfNotOpened (Err (stop.Unopened f)) says = says f
IfNotOpened _ says = Unit {0}

-- and so does a whole run, but of an end that was reached nothing is said
abbrev pub EndsBy : Result (Unit {0}) RestoreStop → (read_failed disk_failed is_long : Type 0) → Type 0
EndsBy (Ok u) read_failed disk_failed is_long = Unit {0}
EndsBy (Err e) read_failed disk_failed is_long = StopsBy e read_failed disk_failed is_long
