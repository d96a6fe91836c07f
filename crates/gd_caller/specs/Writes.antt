-- What the writes that are left to the caller do to a write side.
use Rattle.std.specs.Prelude.{◌≡◌, ℕ, ◌+◌, ◌^◌, ◌≤◌, List, count_by, Bool, Option}
use Rattle.std.specs.Option.{is_some}
pub use Rattle.gd_base.specs.Counts.{RoseBy}
use Rattle.gd_bytes.specs.Disk.{LeavesOnly}
use Rattle.gd_runs.specs.Core.{Session}
use Rattle.gd_runs.specs.Side.{Told, WriteLine, is_fault}
use Rattle.gd_core_laws.specs.Fronts.{StandsBetween, GrowsTold}
use Rattle.gd_core_laws.specs.Writes.{CallerWrites}
use Rattle.gd_writer.specs.Parts.{Tells}
use Rattle.gd_writer.specs.Side.{SideValue, state_of}
use Rattle.gd_caller.specs.Served.{StandsAfterSome}

-- how many of what is kept tell a failure of the disk
abbrev pub faults_kept : List Told → ℕ
faults_kept outcomes = count_by (λ t. is_fault t.kept) outcomes

-- the bytes stand for a side after some of these writes, whichever sessions there are
abbrev pub StandsWritten : {D C : Type 0} → (ℕ → Bool) → SideValue D C → List WriteLine → List ℕ → Type 0
StandsWritten may old ls file = (sessions : ℕ → Session) → StandsAfterSome may (state_of old sessions) old.outcomes ls file

-- The caller walked these write lines, and wrote those of which nothing was kept. The table and the moments of the clock stay, a disk that tells its content goes on to tell it, a stop leaves what stands for the side after some of the writes, and for a front of the history that the walk ends with, or that and one batch in doubt, and the disk's count rose by those that tell a failure of it.
pub record WritesLeft {D C : Type 0} (content : D → Option (List ℕ)) (moment : D → ℕ) (images : D → List ℕ → Type 0) (images_since : D → ℕ → List ℕ → Type 0) (faults : D → ℕ) (may : C → ℕ → Bool) (old new : SideValue D C) (ls : List WriteLine) : Type 0 where
  pub writes : (sessions : ℕ → Session) → CallerWrites (may old.clock) (state_of old sessions) old.outcomes ls (state_of new sessions) new.outcomes
  pub table : new.table ≡ old.table
  pub clock : may new.clock ≡ may old.clock
  pub told : is_some (content new.log.disk) ≡ is_some (content old.log.disk)
  pub moments : Tells (content old.log.disk) → LeavesOnly moment images images_since old.log.disk new.log.disk (StandsWritten (may old.clock) old ls)
  pub grows : GrowsTold old.history old.doubt old.outcomes new.history new.doubt new.outcomes
  pub fronts : Tells (content old.log.disk) → LeavesOnly moment images images_since old.log.disk new.log.disk (StandsBetween old.history old.doubt new.history new.outcomes)
  pub later : faults old.log.disk ≤ faults new.log.disk
  pub rose : (before : ℕ) → RoseBy before (faults old.log.disk) (faults_kept old.outcomes) → RoseBy before (faults new.log.disk) (faults_kept new.outcomes)
