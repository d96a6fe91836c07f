-- What a round names, and what the lock of writes keeps in it.
use Rattle.std.specs.Prelude.{◌≡◌, ℕ, ◌+◌, ◌-◌, ◌^◌, ◌≤◌, min, List, [], length, Bool, true, Option, Some, None, slice_get}
use Rattle.std.specs.Option.{is_some}
use Rattle.logbook.specs.Pages.{Book}
use Rattle.gd_shared.specs.History.{FrontValue}
use Rattle.gd_bytes.specs.File.{MayStandFor}
use Rattle.gd_defs.specs.Write.{WriteRequest}
use Rattle.gd_runs.specs.Legal.{Entry, History, batches, size}
use Rattle.gd_runs.specs.Explained.{Numbered}
use Rattle.gd_runs.specs.Side.{Told, Begun, KeepsHistory, KeepsRound, doubt_groups, session_lines}
use Rattle.gd_core_laws.specs.Fronts.{StandsBetween, GrowsTold}
use Rattle.gd_core_laws.specs.Round.{begun_at}
use Rattle.gd_core_laws.specs.Writes.{AreNew}
use Rattle.gd_writer.specs.Parts.{Tells}
use Rattle.gd_writer.specs.Side.{SideValue}

-- What stood when a round began: the table of the published copies, the numbers that the clock may give, whether the disk told its content, its moment, the history, the number shown, the group in doubt and the disk's count, and the lines of the round with the number of the first.
pub record Named : Type 0 where
  pub table : Book
  pub may : ℕ → Bool
  pub told : Bool
  pub moment : ℕ
  pub history : History
  pub shown : ℕ
  pub doubt : Option Entry
  pub faults : ℕ
  pub first : ℕ
  pub given : List Numbered

-- a round that names nothing
abbrev pub no_round : Named
no_round = record {
  table = record { number = 0; log_name = 0; cells_name = 0 };
  may = λ _. true;
  told = true;
  moment = 0;
  history = record { loaded = []; entries = [] };
  shown = 0;
  doubt = None;
  faults = 0;
  first = 0;
  given = [];
}

-- what stood when it began, as the definitions have it
abbrev pub begun : Named → Begun
begun l = begun_at l.history l.shown l.doubt l.faults l.first l.given

-- where a count of faults stays
abbrev pub most : ℕ
most = 2 ^ 64 - 1

-- The bytes stand for what a lock may keep in a round: for a history that goes with what is kept of the lines of the round, with all or none of the group in doubt.
pub record StandsInRound (may : ℕ → Bool) (l : Begun) (file : List ℕ) : Type 0 where
  pub history : History
  pub shown : ℕ
  pub doubt : Option Entry
  pub faults : ℕ
  pub outcomes : List Told
  pub new : List Entry
  pub keeps : KeepsHistory may history doubt outcomes
  pub lock : KeepsRound l history shown doubt faults most outcomes new
  pub within : shown ≤ size history
  pub stands : MayStandFor (batches history) (doubt_groups doubt) file

-- What a stop leaves now has P, and so has what a stop left at each moment since t, which is not ahead.
pub record LeavesSince {D : Type 0} (moment : D → ℕ) (images : D → List ℕ → Type 0) (images_since : D → ℕ → List ℕ → Type 0) (t : ℕ) (disk : D) (P : List ℕ → Type 0) : Type 0 where
  pub later : t ≤ moment disk
  pub now : (c : List ℕ) → images disk c → P c
  pub each : (c : List ℕ) → images_since disk t c → P c

-- A side with which a round may begin: it is as the round names it, nothing is kept of write lines, and no line of the round is that of an entry or of the group in doubt.
pub record BeginsRound {D C : Type 0} (content : D → Option (List ℕ)) (moment : D → ℕ) (faults : D → ℕ) (may : C → ℕ → Bool) (l : Named) (side : SideValue D C) : Type 0 where
  pub table : side.table ≡ l.table
  pub clock : may side.clock ≡ l.may
  pub told : is_some (content side.log.disk) ≡ l.told
  pub moment_is : moment side.log.disk ≡ l.moment
  pub history : side.history ≡ l.history
  pub shown : length side.shown ≡ l.shown
  pub doubt : side.doubt ≡ l.doubt
  pub count : faults side.log.disk ≡ l.faults
  pub outcomes : side.outcomes ≡ []
  pub fresh : AreNew (begun l)

-- What the lock keeps, beside what a side keeps: its publisher is of the table that the round names, its clock may give just the numbers that it names, its disk tells its content just where it did when the round began, its count has not fallen, and the facts of the definition's lock hold. Where the disk tells its content, all that a stop has left since then stands for what the lock may keep, and for a front of the history that the side has, or that and one batch in doubt.
pub record IsLocked {D C : Type 0} (content : D → Option (List ℕ)) (moment : D → ℕ) (images : D → List ℕ → Type 0) (images_since : D → ℕ → List ℕ → Type 0) (faults : D → ℕ) (may : C → ℕ → Bool) (l : Named) (side : SideValue D C) : Type 0 where
  pub table : side.table ≡ l.table
  pub clock : may side.clock ≡ l.may
  pub told : is_some (content side.log.disk) ≡ l.told
  pub moments : Tells (content side.log.disk) → LeavesSince moment images images_since l.moment side.log.disk (StandsInRound l.may (begun l))
  pub grows : GrowsTold l.history l.doubt [] side.history side.doubt side.outcomes
  pub fronts : Tells (content side.log.disk) → LeavesSince moment images images_since l.moment side.log.disk (StandsBetween l.history l.doubt side.history side.outcomes)
  pub later : l.faults ≤ faults side.log.disk
  pub new : List Entry
  pub lock : KeepsRound (begun l) side.history (length side.shown) side.doubt (min (faults side.log.disk) most) most side.outcomes new

-- before is the write line of this session directly before this line, and None without one
pub record IsBefore (l : Begun) (session line : ℕ) (before : Option ℕ) : Type 0 where
  pub first : slice_get (session_lines l session) 0 ≡ Some line → before ≡ None
  pub later : (q : ℕ) → slice_get (session_lines l session) (q + 1) ≡ Some line → before ≡ slice_get (session_lines l session) q

-- a write line of the round, with its request and length, and the line before it of its session
pub record IsOfRound (l : Begun) (line : ℕ) (before : Option ℕ) (request : WriteRequest) (bytes : ℕ) : Type 0 where
  pub place : ℕ
  pub session : ℕ
  pub there : slice_get l.lines place ≡ Some (record { line = line; session = session; request = request; bytes = bytes })
  pub before_is : IsBefore l session line before

-- a receipt is what a side under the lock tells: of the table that the round names, and of all that is shown
pub record IsToldLocked {D C : Type 0} (content : D → Option (List ℕ)) (moment : D → ℕ) (images : D → List ℕ → Type 0) (images_since : D → ℕ → List ℕ → Type 0) (faults : D → ℕ) (may : C → ℕ → Bool) (l : Named) (receipt : FrontValue) : Type 0 where
  pub side : SideValue D C
  pub locked : IsLocked content moment images images_since faults may l side
  pub told : receipt ≡ record { history = side.table; list = side.shown }
