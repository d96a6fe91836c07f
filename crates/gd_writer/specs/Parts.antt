-- What contracts see of the parts of a write side.
use Rattle.std.specs.Prelude.{◌≡◌, ◌⊎◌, ◌+◌, ◌-◌, ◌≤◌, ℕ, List, [], ◌∷◌, length, Option, None, Some, Result, Ok, Err, IsTrue, option_map}
use Rattle.std.specs.Option.{is_some}
use Rattle.logbook.specs.Pages.{Book}
use Rattle.gd_prim.specs.declared.Batch.{Batch}
use Rattle.gd_bytes.specs.Disk.{LeavesOnly}
use Rattle.gd_bytes.specs.File.{MayStandFor}
use Rattle.gd_journal.specs.declared.fault.JournalFault.{JournalFault}
use Rattle.gd_journal.specs.declared.fault.JournalFault.TheVariants.{DiskFault}
use Rattle.gd_journal.specs.State.{Journaled}
use Rattle.gd_log.specs.Stored.{Stored, Holds, MayAppend}
use Rattle.gd_runs.specs.Legal.{Entry, History, batches, with_entry, history_bytes, kept_bytes, max_history}
use Rattle.gd_runs.specs.Side.{doubt_groups}
use Rattle.gd_writer.specs.declared.entry.Entry.{Entry as Kept}
use Rattle.gd_writer.specs.Entries.{history_of}

-- a list with reserved places
pub record RoomyValue (T : Type 0) : Type 0 where
  pub items : List T
  pub spare : ℕ

-- the history of the copies, the list that is shown, all batches that are to be shown, and for how many more there is room
pub record CopiesValue : Type 0 where
  pub table : Book
  pub shown : List Batch
  pub all : List Batch
  pub spare : ℕ

-- the history, the group in doubt, the log, and for how many more entries there is room
pub record LedgerValue (D : Type 0) : Type 0 where
  pub history : History
  pub doubt : Option Entry
  pub log : Journaled D
  pub spare : ℕ

-- a disk of this content tells it
abbrev pub Tells : Option (List ℕ) → Type 0
Tells content = IsTrue (is_some content)

-- the group of a write in doubt
abbrev pub group_of : Option Entry → Option (List Batch)
group_of doubt = option_map (λ e. e.batch ∷ []) doubt

-- The batch in doubt may be appended to these, and the history has room for its bytes.
pub record IsReadyDoubt (bs : List Batch) (kept : ℕ) (e : Entry) : Type 0 where
  pub may : MayAppend bs (e.batch ∷ [])
  pub room : kept + kept_bytes e.bytes e.result ≤ max_history

-- a write is in doubt just where the log is, and may still be stored
abbrev pub AreReady : List Batch → ℕ → Option ℕ → Option Entry → Type 0
AreReady bs kept None None = Unit {0}
AreReady bs kept (Some next) (Some e) = IsReadyDoubt bs kept e
AreReady bs kept None (Some e) = ⊥
AreReady bs kept (Some next) None = ⊥

-- What a ledger keeps: there is an entry for each batch that was not loaded, the bytes of the history are counted and within its limit, a write in doubt may still be stored, and a disk that tells its content holds the batches, or is unsure of the one in doubt.
pub record IsLedger {D : Type 0} (content : D → Option (List ℕ)) (images : D → List ℕ → Type 0) (held : Stored D) (loaded : ℕ) (entries : List Kept) (kept : ℕ) (doubt : Option Entry) : Type 0 where
  pub count : loaded + length entries ≡ length held.batches
  pub bytes : kept ≡ history_bytes (history_of loaded entries held.batches)
  pub room : kept ≤ max_history
  pub doubted : AreReady held.batches kept held.log.doubt doubt
  pub holds : Tells (content held.log.disk) → Holds (content held.log.disk) (images held.log.disk) held.log.gate held.log.doubt held.batches (group_of doubt)

-- the bytes stand for the history of a ledger, with all or none of the group in doubt
abbrev pub StandsForLedger : {D : Type 0} → LedgerValue D → List ℕ → Type 0
StandsForLedger ledger file = MayStandFor (batches ledger.history) (doubt_groups ledger.doubt) file

-- What a step leaves of the disk: one that tells its content goes on to tell it, a stop leaves what stands for the one ledger or the other, and the count of faults does not fall.
pub record Backs {D : Type 0} (content : D → Option (List ℕ)) (moment : D → ℕ) (images : D → List ℕ → Type 0) (images_since : D → ℕ → List ℕ → Type 0) (faults : D → ℕ) (old new : LedgerValue D) : Type 0 where
  pub told : is_some (content new.log.disk) ≡ is_some (content old.log.disk)
  pub moments : Tells (content old.log.disk) → LeavesOnly moment images images_since old.log.disk new.log.disk (λ file. StandsForLedger old file ⊎ StandsForLedger new file)
  pub later : faults old.log.disk ≤ faults new.log.disk

-- a doubt ended: the write does not count, or there was none, or it counts, is an entry and gave its batch
abbrev pub EndsAs : {D : Type 0} → LedgerValue D → LedgerValue D → Option Batch → Type 0
EndsAs old new None = new ≡ record old { doubt = None; log = new.log }
EndsAs old new (Some batch) = (e : Entry) × (old.doubt ≡ Some e) × (batch ≡ e.batch) × (new ≡ record { history = with_entry old.history e; doubt = None; log = new.log; spare = old.spare - 1 })

-- an append of a write: it is an entry, it is in doubt, or nothing was stored
abbrev pub AppendsAs : {D : Type 0} → Result Batch JournalFault → LedgerValue D → Entry → LedgerValue D → Type 0
AppendsAs (Ok batch) old e new = (batch ≡ e.batch) × (new ≡ record { history = with_entry old.history e; doubt = None; log = new.log; spare = old.spare - 1 })
AppendsAs (Err DiskFault) old e new = new ≡ record old { doubt = Some e; log = new.log }
AppendsAs (Err _) old e new = new ≡ record old { log = new.log }
