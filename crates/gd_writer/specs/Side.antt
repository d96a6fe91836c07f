-- What contracts see of a write side, and what its calls do.
use Rattle.std.specs.Prelude.{◌≡◌, ◌⊎◌, ℕ, ◌<◌, ◌≤◌, List, [], ◌∷◌, ◌++◌, length, map, slice_get, Bool, true, Option, None, Some}
use Rattle.std.specs.List.{AllByRecursion}
use Rattle.std.specs.Option.{ForSome, is_some}
use Rattle.logbook.specs.Pages.{Book}
use Rattle.gd_base.specs.Counts.{Rose}
use Rattle.gd_prim.specs.declared.Batch.{Batch}
use Rattle.gd_bytes.specs.Disk.{LeavesOnly}
use Rattle.gd_bytes.specs.File.{StandsFor, MayStandFor}
use Rattle.gd_journal.specs.State.{Journaled}
use Rattle.gd_tree.specs.Json.{Json}
use Rattle.gd_defs.specs.Write.{WriteRequest}
use Rattle.gd_runs.specs.Legal.{Entry, History, batches, size}
use Rattle.gd_runs.specs.Core.{State, Session}
use Rattle.gd_runs.specs.Side.{Kept, kept_stored, Told, Keeps, KeepsHistory, WriteKeeps, told_of, doubt_groups, is_fault}
use Rattle.gd_writer.specs.declared.outcome.WriteOf.{WriteOf}
use Rattle.gd_writer.specs.Outcomes.{told_view, IsTold, IsRefusedNow}
use Rattle.gd_writer.specs.Parts.{LedgerValue, CopiesValue, Tells}

-- the history, the group in doubt, what is kept of write lines, the history of the published copies and the list that is shown, the log, and the clock
pub record SideValue (D C : Type 0) : Type 0 where
  pub history : History
  pub doubt : Option Entry
  pub outcomes : List Told
  pub table : Book
  pub shown : List Batch
  pub log : Journaled D
  pub clock : C

-- the state of the core that a side is, with these sessions
abbrev pub state_of : {D C : Type 0} → SideValue D C → (ℕ → Session) → State
state_of side sessions = record { history = side.history; shown = length side.shown; doubt = side.doubt; sessions = sessions }

-- ---- what a side keeps

-- an image of a disk that tells its content
abbrev pub ToldImages : Option (List ℕ) → (List ℕ → Type 0) → List ℕ → Type 0
ToldImages content images file = Tells content × images file

-- the side keeps what stands behind the lock of writes
abbrev pub KeepsAll : {D C : Type 0} → (D → Option (List ℕ)) → (D → List ℕ → Type 0) → (C → ℕ → Bool) → SideValue D C → Type 0
KeepsAll content images may side = Keeps (may side.clock) side.history (length side.shown) side.doubt (batches side.history) side.shown (ToldImages (content side.log.disk) (images side.log.disk)) side.outcomes

-- each line that is kept as stored is shown
abbrev pub ShowsStored : {D C : Type 0} → SideValue D C → Type 0
ShowsStored side = (i e : ℕ) (r : Json) (t : Told) → slice_get side.outcomes i ≡ Some t → t.kept ≡ kept_stored e r → e < length side.shown

-- the side that a ledger, published copies and a clock are, with what is kept
abbrev pub side_of : {D C : Type 0} → LedgerValue D → CopiesValue → C → List Told → SideValue D C
side_of ledger copies clock outcomes = record { history = ledger.history; doubt = ledger.doubt; outcomes = outcomes; table = copies.table; shown = copies.shown; log = ledger.log; clock = clock }

-- what a side keeps of its parts: the copies have all that the ledger has, or are to show it, and what is kept agrees with the history
pub record IsSide {D C : Type 0} (may : C → ℕ → Bool) (ledger : LedgerValue D) (copies : CopiesValue) (clock : C) (outcomes : List WriteOf) : Type 0 where
  pub all : copies.all ≡ batches ledger.history
  pub most : length copies.shown ≤ size ledger.history
  pub history : KeepsHistory (may clock) ledger.history ledger.doubt (map told_view outcomes)
  pub shows : ShowsStored (side_of ledger copies clock (map told_view outcomes))
  pub told : AllByRecursion (λ w. IsTold w.line w.outcome) outcomes

-- ---- what its calls do

-- a side that begins over what a disk holds: nothing is written, nothing in doubt and nothing kept, all is shown, and the file stands for the loaded batches
pub record Begins {D C : Type 0} (content : Option (List ℕ)) (given : ℕ → Bool) (may : C → ℕ → Bool) (side : SideValue D C) : Type 0 where
  pub entries : side.history.entries ≡ []
  pub doubt : side.doubt ≡ None
  pub outcomes : side.outcomes ≡ []
  pub shown : side.shown ≡ side.history.loaded
  pub clock : may side.clock ≡ given
  pub means : ForSome content (λ file. StandsFor file side.history.loaded)

-- the bytes stand for the history, with all or none of the group in doubt
abbrev pub StandsForSide : {D C : Type 0} → SideValue D C → List ℕ → Type 0
StandsForSide side file = MayStandFor (batches side.history) (doubt_groups side.doubt) file

-- the bytes stand so for the one side or for the other
abbrev pub StandsForEither : {D C : Type 0} → SideValue D C → SideValue D C → List ℕ → Type 0
StandsForEither a b file = StandsForSide a file ⊎ StandsForSide b file

-- A write of line k, of so many bytes, keeps one outcome more, and the side comes to the state that goes with it, whichever sessions there are. A refusal is of a moment that the clock may give. Only where the disk's count rose does the outcome tell a failure of it.
pub record Writes {D C : Type 0} (may : ℕ → Bool) (faults : D → ℕ) (old : SideValue D C) (k bytes : ℕ) (w : WriteRequest) (new : SideValue D C) : Type 0 where
  pub kept : Kept
  pub outcomes : new.outcomes ≡ old.outcomes ++ told_of k kept ∷ []
  pub step : (sessions : ℕ → Session) → WriteKeeps may (state_of old sessions) k bytes w kept (state_of new sessions)
  pub refusal : IsRefusedNow may new.history bytes w kept
  pub fault : is_fault kept ≡ true → Rose (faults old.log.disk) (faults new.log.disk)

-- The table and the moments of the clock stay, a disk that tells its content goes on to tell it, a stop leaves what stands for the one side or the other, and the disk's count does not fall.
pub record GoesOn {D C : Type 0} (content : D → Option (List ℕ)) (moment : D → ℕ) (images : D → List ℕ → Type 0) (images_since : D → ℕ → List ℕ → Type 0) (faults : D → ℕ) (may : C → ℕ → Bool) (old new : SideValue D C) : Type 0 where
  pub table : new.table ≡ old.table
  pub clock : may new.clock ≡ may old.clock
  pub told : is_some (content new.log.disk) ≡ is_some (content old.log.disk)
  pub moments : Tells (content old.log.disk) → LeavesOnly moment images images_since old.log.disk new.log.disk (StandsForEither old new)
  pub later : faults old.log.disk ≤ faults new.log.disk

-- a side that begins over a log and the store of its batches
pub record BeginsOver {D C : Type 0} (store : List Batch) (given : ℕ → Bool) (may : C → ℕ → Bool) (log : Journaled D) (side : SideValue D C) : Type 0 where
  pub history : side.history ≡ record { loaded = store; entries = [] }
  pub doubt : side.doubt ≡ None
  pub outcomes : side.outcomes ≡ []
  pub shown : side.shown ≡ store
  pub clock : may side.clock ≡ given
  pub log_is : side.log ≡ log
