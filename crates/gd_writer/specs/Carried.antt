-- What carrying a write out comes to, for the parts of a side.
use Rattle.std.specs.Prelude.{◌≡◌, ℕ, List, length, Bool, true, Option}
use Rattle.gd_base.specs.Counts.{Rose}
use Rattle.gd_defs.specs.Write.{WriteRequest}
use Rattle.gd_journal.specs.declared.fault.JournalFault.{JournalFault}
use Rattle.gd_journal.specs.declared.fault.JournalFault.TheVariants.{DiskFault}
use Rattle.gd_runs.specs.Legal.{batches}
use Rattle.gd_runs.specs.Core.{State, Session, Settles}
use Rattle.gd_runs.specs.Side.{WriteKeeps, is_fault}
use Rattle.gd_writer.specs.declared.outcome.Outcome.{Outcome}
use Rattle.gd_writer.specs.declared.outcome.Outcome.TheVariants as outcome
use Rattle.gd_writer.specs.Outcomes.{kept_view, IsTold, IsRefusedNow}
use Rattle.gd_writer.specs.Parts.{LedgerValue, CopiesValue, Backs}

-- all that the ledger has the copies have, or are to show
abbrev pub IsAligned : {D : Type 0} → LedgerValue D → CopiesValue → Type 0
IsAligned ledger copies = copies.all ≡ batches ledger.history

-- the state of the core that a ledger and its copies are, with these sessions
abbrev pub desk_state : {D : Type 0} → LedgerValue D → CopiesValue → (ℕ → Session) → State
desk_state ledger copies sessions = record { history = ledger.history; shown = length copies.shown; doubt = ledger.doubt; sessions = sessions }

-- what stays or goes on: what is told of a failure, the table, the clock's moments, and the disk
pub record GoesAlong {D C : Type 0} (content : D → Option (List ℕ)) (moment : D → ℕ) (images : D → List ℕ → Type 0) (images_since : D → ℕ → List ℕ → Type 0) (faults : D → ℕ) (may : C → ℕ → Bool)
    (ledger : LedgerValue D) (copies : CopiesValue) (clock : C) (line : ℕ) (after : LedgerValue D) (shows : CopiesValue) (ticks : C) (outcome : Outcome) : Type 0 where
  pub told : IsTold line outcome
  pub fault : is_fault (kept_view outcome) ≡ true → Rose (faults ledger.log.disk) (faults after.log.disk)
  pub table : shows.table ≡ copies.table
  pub ticking : may ticks ≡ may clock
  pub backs : Backs content moment images images_since faults ledger after

-- A write line came to this outcome, after an earlier doubt.
pub record Carries {D C : Type 0} (content : D → Option (List ℕ)) (moment : D → ℕ) (images : D → List ℕ → Type 0) (images_since : D → ℕ → List ℕ → Type 0) (faults : D → ℕ) (may : C → ℕ → Bool)
    (ledger : LedgerValue D) (copies : CopiesValue) (clock : C) (line bytes : ℕ) (w : WriteRequest) (after : LedgerValue D) (shows : CopiesValue) (ticks : C) (outcome : Outcome) : Type 0 where
  pub step : (sessions : ℕ → Session) → WriteKeeps (may clock) (desk_state ledger copies sessions) line bytes w (kept_view outcome) (desk_state after shows sessions)
  pub refusal : IsRefusedNow (may clock) after.history bytes w (kept_view outcome)
  pub along : GoesAlong content moment images images_since faults may ledger copies clock line after shows ticks outcome

-- A write line came to this outcome, whichever state settled as the one that it was carried out over.
pub record Changes {D C : Type 0} (content : D → Option (List ℕ)) (moment : D → ℕ) (images : D → List ℕ → Type 0) (images_since : D → ℕ → List ℕ → Type 0) (faults : D → ℕ) (may : C → ℕ → Bool)
    (ledger : LedgerValue D) (copies : CopiesValue) (clock : C) (line bytes : ℕ) (w : WriteRequest) (after : LedgerValue D) (shows : CopiesValue) (ticks : C) (outcome : Outcome) : Type 0 where
  pub step : (s : State) → Settles s (desk_state ledger copies s.sessions) → WriteKeeps (may clock) s line bytes w (kept_view outcome) (desk_state after shows s.sessions)
  pub refusal : IsRefusedNow (may clock) after.history bytes w (kept_view outcome)
  pub along : GoesAlong content moment images images_since faults may ledger copies clock line after shows ticks outcome

-- what a write came to whose append failed over so many requests
abbrev pub failed_as : JournalFault → ℕ → Outcome
failed_as DiskFault at = outcome.Doubt at
failed_as _ at = outcome.Memory
