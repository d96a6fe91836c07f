-- What a turn at a read line comes to.
use Rattle.std.specs.Prelude.{◌≡◌, ℕ, ◌≤◌, List, length, Option, Some, None, Ok, IfSome, option_map}
use Rattle.std.specs.Global.{Vec}
use mathlib.Core.List.{IsPrefix}
use Rattle.gd_base.specs.Counts.{Rose}
use Rattle.gd_prim.specs.declared.Batch.{Batch}
use Rattle.gd_cache.specs.Asked.{IsKeyOf}
use Rattle.gd_cache.specs.Right.{KeepsRight}
use Rattle.gd_runs.specs.Request.{ReadSet, reply_of}
use Rattle.gd_runs.specs.Core as core
use Rattle.gd_shared.specs.Shared.{SeatValue}
use Rattle.gd_seats.specs.Session.{SessionValue, reads, seen_of}
use Rattle.gd_seats.specs.Calls.{HasEntered, WasTurnedAway}
use Rattle.gd_crew.specs.declared.job.LookUp.{LookUp}
use Rattle.gd_crew.specs.declared.reading.ReadTurn.{ReadTurn}
use Rattle.gd_crew.specs.declared.reading.ReadTurn.TheVariants as turn

-- where the reply to a read may be kept, if it may, what is kept is right over these batches, under the text of the read
abbrev pub LooksFor : List Batch → ReadSet → Option LookUp → Type 0
LooksFor batches q look = IfSome look (λ l. KeepsRight batches l.cache.now × IsKeyOf l.text.now q)

-- a seat is of the same table, what it entered last and was told goes on from what that was, it has seen no less, and it was not turned away
pub record SeatGrows (old new : SeatValue) : Type 0 where
  pub table : new.history ≡ old.history
  pub entered : IsPrefix old.entered new.entered
  pub told : IsPrefix old.told new.told
  pub seen : seen_of old ≤ seen_of new
  pub turned_away : new.turned_away ≡ old.turned_away

-- a session was turned away, at once or after it had entered: its seat is of the same table, what it entered last and was told goes on from what that was, it has seen no less, reads the same, and the count of that rose or stands at its end
pub record IsTurnedAway (old new : SessionValue) : Type 0 where
  pub table : new.seat.history ≡ old.seat.history
  pub entered : IsPrefix old.seat.entered new.seat.entered
  pub told : IsPrefix old.seat.told new.seat.told
  pub seen : seen_of old.seat ≤ seen_of new.seat
  pub rose : Rose old.seat.turned_away new.seat.turned_away
  pub more : old.seat.turned_away ≤ new.seat.turned_away
  pub held : reads new ≡ reads old

-- a session holds the reading of a request that began at so much of what it then entered, which is no less than it had seen
pub record BeginsReading (old new : SessionValue) (q : ReadSet) (n : ℕ) : Type 0 where
  pub seat : SeatGrows old.seat new.seat
  pub begun : core.Reading
  pub of : core.reading_of new.seat.entered n q ≡ Ok begun
  pub held : reads new ≡ Some begun
  pub within : n ≤ length new.seat.entered
  pub late : seen_of old.seat ≤ n

-- the reply line of line k of a read at a snapshot, which is no less than the session had seen, and no reading is held
pub record RepliesAtOnce (old new : SessionValue) (k : ℕ) (q : ReadSet) (n : ℕ) (reply : Option (List ℕ)) : Type 0 where
  pub seat : SeatGrows old.seat new.seat
  pub none : reads new ≡ None
  pub is : IfSome reply (λ bytes. (seen_of old.seat ≤ n) × (n ≤ length new.seat.entered) × (bytes ≡ reply_of new.seat.entered n k q))

-- the reply line of line k that the reading owed which was held, and none is held
pub record RepliesOwed (old new : SessionValue) (k : ℕ) (reply : Option (List ℕ)) : Type 0 where
  pub seat : SeatGrows old.seat new.seat
  pub none : reads new ≡ None
  pub is : IfSome reply (λ bytes. IfSome (reads old) (λ r. bytes ≡ core.owed_line new.seat.entered k r))

-- the bytes of a reply
abbrev pub bytes_of : Option (Vec ℕ) → Option (List ℕ)
bytes_of reply = option_map (λ bytes. bytes.items) reply

-- a turn that begins a read
abbrev pub BeginTurn : SessionValue → ℕ → ReadSet → ReadTurn → SessionValue → Type 0
BeginTurn old k q (turn.Going n) new = BeginsReading old new q n
BeginTurn old k q (turn.Answered n reply) new = RepliesAtOnce old new k q n (bytes_of reply)
BeginTurn old k q turn.Shut new = IsTurnedAway old new

-- a session looked for a read: it entered so many batches, and reads the same
pub record LooksFrom (old new : SessionValue) (snapshot : ℕ) : Type 0 where
  pub entered : HasEntered old.seat new.seat
  pub snapshot_is : snapshot ≡ length new.seat.entered
  pub held : reads new ≡ reads old

-- a turn that goes on with the reading that began at a snapshot
abbrev pub SliceTurn : SessionValue → ℕ → ℕ → ReadTurn → SessionValue → Type 0
SliceTurn old at k (turn.Going n) new = SeatGrows old.seat new.seat × (reads new ≡ reads old) × (n ≡ at)
SliceTurn old at k (turn.Answered n reply) new = RepliesOwed old new k (bytes_of reply) × (n ≡ at)
SliceTurn old at k turn.Shut new = WasTurnedAway old new

-- a turn, with the snapshot of the reading that is held, if one is
abbrev pub TurnsRead : SessionValue → Option ℕ → ℕ → ReadSet → ReadTurn → SessionValue → Type 0
TurnsRead old None k q what new = BeginTurn old k q what new
TurnsRead old (Some at) k q what new = SliceTurn old at k what new
