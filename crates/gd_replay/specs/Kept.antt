-- What a run of events keeps of the file of its store.
use Rattle.std.specs.Prelude.{◌≡◌, List, ℕ, ◌++◌, Option, Result, Ok, Err}
use Rattle.gd_prim.specs.declared.Batch.{Batch}
use Rattle.gd_bytes.specs.File.{StandsFor}
use Rattle.gd_journal.specs.declared.fault.JournalFault.{JournalFault}
use Rattle.gd_journal.specs.declared.fault.JournalFault.TheVariants as journal
use Rattle.gd_sessions.specs.PassedOn.{Tells}
use Rattle.gd_replay.specs.declared.stop.Stop.{Stop}
use Rattle.gd_replay.specs.declared.stop.Stop.TheVariants as stop

-- the batches stay, and further ones may have come behind them
pub record Grows (old new : List Batch) : Type 0 where
  pub more : List Batch
  pub is : new ≡ old ++ more

-- A disk has these batches, and may have more: it tells its content, and all that a stop leaves stands for them and for further ones.
pub record HasBatches (content : Option (List ℕ)) (images : List ℕ → Type 0) (bs : List Batch) : Type 0 where
  pub told : Tells content
  pub left : (file : List ℕ) → images file → (more : List Batch) × StandsFor file (bs ++ more)

-- a fault that says nothing of a file
abbrev pub IsHindrance : JournalFault → Type 0
IsHindrance journal.DiskFault = Unit {0}
IsHindrance journal.Memory = Unit {0}
IsHindrance _ = ⊥

-- what is kept by a run that has begun, which loses its store by a hindrance alone, and by one whose store was not opened
abbrev pub KeepsAs : Result (Unit {0}) Stop → (begun : Type 0) → (unopened : JournalFault → Type 0) → Type 0
KeepsAs (Ok u) begun unopened = begun
KeepsAs (Err (stop.Unopened f)) begun unopened = unopened f
KeepsAs (Err (stop.Lost f)) begun unopened = begun × IsHindrance f
KeepsAs (Err stop.ReadFault) begun unopened = begun
KeepsAs (Err stop.SinkFault) begun unopened = begun
KeepsAs (Err stop.Memory) begun unopened = begun
KeepsAs (Err stop.TooMuch) begun unopened = begun
