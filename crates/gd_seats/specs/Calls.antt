-- What a call of a session comes to.
use Rattle.std.specs.Prelude.{◌≡◌, ◌≢◌, ℕ, ◌≤◌, List, length, Option, None, Some, IfSome, Result, Ok, Err}
use mathlib.Core.List.{IsPrefix}
use Rattle.gd_base.specs.Counts.{Rose}
use Rattle.gd_runs.specs.Core as core
use Rattle.gd_runs.specs.Request.{ReadSet}
use Rattle.gd_shared.specs.Shared.{SeatValue, one_more}
use Rattle.gd_read.specs.Begun.{fault_at, HasOffset, read_dateline}
use Rattle.gd_read.specs.declared.fault.ReadFault.{ReadFault}
use Rattle.gd_read.specs.declared.fault.ReadFault.TheVariants as read_fault
use Rattle.gd_read.specs.declared.reading.Progress.{Progress}
use Rattle.gd_read.specs.declared.reading.Progress.TheVariants.{Reply, Unfinished}
use Rattle.gd_seats.specs.declared.fault.SessionFault.{SessionFault}
use Rattle.gd_seats.specs.declared.fault.SessionFault.TheVariants.{Read, Shut}
use Rattle.gd_seats.specs.declared.session.Looked.{Looked}
use Rattle.gd_seats.specs.Session.{SessionValue, reads, seen_of}

-- ---- the seat

-- a seat later on: it is of the same table, what it entered and was told begins with what it had entered and had been told, and neither what it has seen nor how often it was turned away has fallen
pub record IsLater (old new : SeatValue) : Type 0 where
  pub table : new.history ≡ old.history
  pub entered : IsPrefix old.entered new.entered
  pub told : IsPrefix old.told new.told
  pub seen : seen_of old ≤ seen_of new
  pub turned_away : old.turned_away ≤ new.turned_away

-- a seat has entered a list that begins with all that it had seen, and is no shorter, and has seen just that list
pub record HasEntered (old new : SeatValue) : Type 0 where
  pub table : new.history ≡ old.history
  pub entered : IsPrefix old.entered new.entered
  pub told : IsPrefix old.told new.entered
  pub enough : seen_of old ≤ length new.entered
  pub all : new.told ≡ new.entered
  pub turned_away : new.turned_away ≡ old.turned_away

-- a session was turned away: it is as it was but for the count of that, which rose or stands at its end
pub record WasTurnedAway (old new : SessionValue) : Type 0 where
  pub counted : new ≡ record old { seat = record old.seat { turned_away = one_more old.seat.turned_away } }
  pub rose : Rose old.seat.turned_away new.seat.turned_away

-- ---- readings

-- a session reads what the definitions say for a request over so many batches of the list that it entered, at this dateline
pub record HasBegunAt (shown : ℕ) (new : SessionValue) (request : ReadSet) (n : ℕ) : Type 0 where
  pub begun : core.Reading
  pub of : core.reading_of new.seat.entered shown request ≡ Ok begun
  pub held : reads new ≡ Some begun
  pub at : n ≡ begun.dateline
  pub below : n ≤ shown

-- the same over all of the list
abbrev pub HasBegun : SessionValue → ReadSet → ℕ → Type 0
HasBegun new request n = HasBegunAt (length new.seat.entered) new request n

-- a request is refused as the definitions say over so many batches of the list that was entered, or there was no memory, and nothing is read
pub record IsRefusedAt (shown : ℕ) (new : SessionValue) (request : ReadSet) (f : ReadFault) : Type 0 where
  pub of : f ≢ read_fault.Memory → core.reading_of new.seat.entered shown request ≡ Err (fault_at shown f)
  pub offset : HasOffset f
  pub none : reads new ≡ None

-- the same over all of the list
abbrev pub IsRefused : SessionValue → ReadSet → ReadFault → Type 0
IsRefused new request f = IsRefusedAt (length new.seat.entered) new request f

-- the list that was entered has so many batches, and a request has this dateline over it
pub record HasLooked (new : SessionValue) (request : ReadSet) (l : Looked) : Type 0 where
  pub snapshot : l.snapshot ≡ length new.seat.entered
  pub dateline : read_dateline l.snapshot request ≡ Ok l.dateline

-- the cursor of a request is refused as the definitions say over the list that was entered, or there was no memory
pub record HasBadCursor (new : SessionValue) (request : ReadSet) (f : ReadFault) : Type 0 where
  pub of : f ≢ read_fault.Memory → core.reading_of new.seat.entered (length new.seat.entered) request ≡ Err (fault_at (length new.seat.entered) f)
  pub offset : HasOffset f

-- the reply line of line k is the one that the session owed, for a reading whose dateline it had entered, and nothing is read
pub record HasReplied (old new : SessionValue) (k : ℕ) (reply : List ℕ) : Type 0 where
  pub of : IfSome (reads old) (λ r. (r.dateline ≤ length old.seat.entered) × (reply ≡ core.owed_line new.seat.entered k r))
  pub none : reads new ≡ None

-- ---- calls

-- beginning a read over so many batches of the list that was entered gives its dateline, or why it does not begin
abbrev pub BeginsOver : ℕ → SessionValue → SessionValue → ReadSet → Result ℕ SessionFault → Type 0
BeginsOver shown old new request (Ok n) = HasEntered old.seat new.seat × HasBegunAt shown new request n
BeginsOver shown old new request (Err (Read f)) = HasEntered old.seat new.seat × IsRefusedAt shown new request f
BeginsOver shown old new request (Err Shut) = WasTurnedAway old new

-- beginning a read gives its dateline, or why it does not begin
abbrev pub BeginsAs : SessionValue → SessionValue → ReadSet → Result ℕ SessionFault → Type 0
BeginsAs old new request result = BeginsOver (length new.seat.entered) old new request result

-- over how many batches a read begins: over this number, or over all that was entered
abbrev pub shown_of : Option ℕ → SessionValue → ℕ
shown_of None session = length session.seat.entered
shown_of (Some n) session = n

-- the cursor of a request is refused as the definitions say where this is the latest dateline, or there was no memory
abbrev pub IsDatelineFault : ℕ → ReadSet → SessionFault → Type 0
IsDatelineFault latest request (Read f) = (f ≢ read_fault.Memory → read_dateline latest request ≡ Err (fault_at latest f)) × HasOffset f
IsDatelineFault latest request Shut = ⊥

-- looking for a read gives the snapshot and its dateline there, or why it has none
abbrev pub LooksAs : SessionValue → SessionValue → ReadSet → Result Looked SessionFault → Type 0
LooksAs old new request (Ok l) = HasEntered old.seat new.seat × HasLooked new request l × (reads new ≡ reads old)
LooksAs old new request (Err (Read f)) = HasEntered old.seat new.seat × HasBadCursor new request f × (reads new ≡ reads old)
LooksAs old new request (Err Shut) = WasTurnedAway old new

-- a slice gives the reply line of line k, or leaves the same to be read, or finds no memory and ends the reading
abbrev pub SlicesAs : SessionValue → SessionValue → ℕ → Result Progress SessionFault → Type 0
SlicesAs old new k (Ok (Reply bytes)) = HasEntered old.seat new.seat × HasReplied old new k bytes.items
SlicesAs old new k (Ok Unfinished) = HasEntered old.seat new.seat × (reads new ≡ reads old)
SlicesAs old new k (Err (Read f)) = HasEntered old.seat new.seat × (reads new ≡ None) × (f ≡ read_fault.Memory)
SlicesAs old new k (Err Shut) = WasTurnedAway old new

-- entering and leaving
abbrev pub MeetsAs : {A : Type 0} → SessionValue → SessionValue → Result A SessionFault → Type 0
MeetsAs old new (Ok a) = HasEntered old.seat new.seat × (reads new ≡ reads old)
MeetsAs old new (Err (Read f)) = ⊥
MeetsAs old new (Err Shut) = WasTurnedAway old new
