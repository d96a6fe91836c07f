-- What stands when the workers of a round are joined.
use Rattle.std.specs.Prelude.{◌≡◌, ℕ, ◌<◌, ◌≤◌, List, [], length, map, min, Bool, Option, IfSome, slice_index_or}
use Rattle.std.specs.List.{All, AllByRecursion}
use Rattle.std.specs.Option.{is_some}
use Rattle.logbook.specs.Pages.{Book}
use Rattle.gd_prim.specs.declared.Batch.{Batch}
use Rattle.gd_runs.specs.Legal.{Entry}
use Rattle.gd_runs.specs.Request.{ReadSet, reply_of}
use Rattle.gd_runs.specs.Side.{Begun, WriteLine, KeepsRound}
use Rattle.gd_core_laws.specs.Fronts.{StandsBetween, GrowsTold}
use Rattle.gd_writer.specs.Parts.{Tells}
use Rattle.gd_writer.specs.Side.{SideValue}
use Rattle.gd_crew.specs.Round.{most, StandsInRound, LeavesSince}
use Rattle.gd_round_lines.specs.declared.work.ReadLine.{ReadLine}
use Rattle.gd_crew.specs.declared.seated.Seated.{Seated}
use Rattle.gd_crew.specs.declared.worker.Worker.{Worker}
use Rattle.gd_crew.specs.Runs.{ReplyValue}
use Rattle.gd_crew.specs.Seated.{reply_view, Begins, AllRun}
use Rattle.gd_crew.specs.Jobs.{IsAmong}

-- ---- the side

-- what stood when a round of these write lines began, by its side
abbrev pub begun_by : {D C : Type 0} → (D → ℕ) → SideValue D C → List WriteLine → Begun
begun_by faults side lines = record { history = side.history; shown = length side.shown; doubt = side.doubt; faults = faults side.log.disk; lines = lines }

-- The side of which workers wrote these lines: its table and the moments of its clock stay, its disk tells its content just where it did, the disk's count has not fallen, and what a lock keeps in such a round holds. Where the disk tells its content, all that a stop left since then stands for what a lock may keep in such a round, and for a front of the history with which the workers ended, or that and one batch in doubt.
pub record IsJoined {D C : Type 0} (content : D → Option (List ℕ)) (moment : D → ℕ) (images : D → List ℕ → Type 0) (images_since : D → ℕ → List ℕ → Type 0) (faults : D → ℕ) (may : C → ℕ → Bool) (lines : List WriteLine) (old new : SideValue D C) : Type 0 where
  pub table : new.table ≡ old.table
  pub clock : may new.clock ≡ may old.clock
  pub told : is_some (content new.log.disk) ≡ is_some (content old.log.disk)
  pub moments : Tells (content old.log.disk) → LeavesSince moment images images_since (moment old.log.disk) new.log.disk (StandsInRound (may old.clock) (begun_by faults old lines))
  pub grows : GrowsTold old.history old.doubt [] new.history new.doubt new.outcomes
  pub fronts : Tells (content old.log.disk) → LeavesSince moment images images_since (moment old.log.disk) new.log.disk (StandsBetween old.history old.doubt new.history new.outcomes)
  pub later : faults old.log.disk ≤ faults new.log.disk
  pub entries : List Entry
  pub lock : KeepsRound (begun_by faults old lines) new.history (length new.shown) new.doubt (min (faults new.log.disk) most) most new.outcomes entries

-- ---- the workers

-- a worker may run: a slice has a budget, and each of its sessions may begin
pub record MayRun (l : Begun) (table : Book) (w : Worker) : Type 0 where
  pub some : 0 < w.budget
  pub most : w.budget ≤ 1_000_000
  pub sessions : All (Begins l table) w.seated.items

-- a worker has run
pub record HasRun (l : Begun) (table : Book) (v w : Worker) : Type 0 where
  pub number : w.number ≡ v.number
  pub budget : w.budget ≡ v.budget
  pub ran : AllRun l table v.seated.items w.seated.items

-- each worker has run
abbrev pub HaveRun : Begun → Book → List Worker → List Worker → Type 0
HaveRun l table old new = (i : ℕ) (d : Worker) → i < length old → HasRun l table (slice_index_or old i d) (slice_index_or new i d)

-- bytes are the reply to one of these reads over so many requests of a list
pub record RepliesTo (reads : List ReadLine) (list : List Batch) (line at : ℕ) (bytes : List ℕ) : Type 0 where
  pub request : ReadSet
  pub of : IsAmong reads line request
  pub within : at ≤ length list
  pub is : bytes ≡ reply_of list at line request

-- what is kept of a read is such a reply, or want of memory
abbrev pub IsReplyOver : List ReadLine → List Batch → ReplyValue → Type 0
IsReplyOver reads list r = IfSome r.reply (λ bytes. RepliesTo reads list r.line r.at bytes)

-- A session after its run: its seat is of this table, and each reply that it kept is one to these reads over the list that the seat entered last.
pub record HasRead (table : Book) (reads : List ReadLine) (s : Seated) : Type 0 where
  pub of_table : s.session.seat.history ≡ table
  pub replies : AllByRecursion (IsReplyOver reads s.session.seat.entered) (map reply_view s.replies.items)

-- the sessions of a worker after their run
abbrev pub HasWorked : Book → List ReadLine → Worker → Type 0
HasWorked table reads w = All (HasRead table reads) w.seated.items
