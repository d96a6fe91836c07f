-- A session's jobs in a round: what a worker has done of them, and what it may do next.
use Rattle.std.specs.Prelude.{◌≡◌, ℕ, ◌^◌, ◌<◌, ◌≤◌, ◌==◌, max, List, [], ◌∷◌, ◌++◌, length, take, map, filter, slice_get, Bool, true, false, Option, Some, None, Ok, IfSome, is_some}
use Rattle.std.specs.List.{AllByRecursion, AllZip, last_or}
use mathlib.Core.List.{IsPrefix}
use Rattle.logbook.specs.Pages.{Book}
use Rattle.gd_base.specs.Counts.{Rose}
use Rattle.gd_prim.specs.declared.Batch.{Batch}
use Rattle.gd_runs.specs.Request.{Line, read, write, ReadSet, reply_of}
use Rattle.gd_runs.specs.Core.{Reading, reading_of}
use Rattle.gd_runs.specs.Side.{WriteLine, Begun}
use Rattle.gd_core_laws.specs.Round.{one_write}
use Rattle.gd_cache.specs.Asked.{IsKeyOf}
use Rattle.gd_cache.specs.Right.{KeepsRight}
use Rattle.gd_cache.specs.Shown.{Shown}
use Rattle.gd_crew.specs.declared.job.Stop.{Stop}
use Rattle.gd_crew.specs.declared.job.StopCause.{StopCause}
use Rattle.gd_crew.specs.declared.job.StopCause.TheVariants as cause

-- where the reply to a read may be kept: a cache, and the text of the read
pub record LookValue : Type 0 where
  pub cache : Shown
  pub text : List ℕ

-- a read or a write line of a round, with its length, and where the reply to it may be kept
pub record JobValue : Type 0 where
  pub line : ℕ
  pub bytes : ℕ
  pub work : Line
  pub look : Option LookValue

-- the reply that is kept of a read line, with its snapshot; none stands for want of memory
pub record ReplyValue : Type 0 where
  pub line : ℕ
  pub at : ℕ
  pub reply : Option (List ℕ)

-- A session in a round: its number, its jobs, how many of them are done and the last write line of these; the table of its seat, the list that this entered last, the one that it was told of, and how often it was turned away; the reading that it holds, and the snapshot at which that began, if it holds one; its replies, and for how many there is room; and where it stopped.
pub record Share : Type 0 where
  pub sid : ℕ
  pub jobs : List JobValue
  pub done : ℕ
  pub before : Option ℕ
  pub table : Book
  pub entered : List Batch
  pub told : List Batch
  pub turned_away : ℕ
  pub reading : Option Reading
  pub at : Option ℕ
  pub replies : List ReplyValue
  pub room : ℕ
  pub stop : Option Stop

-- the number of requests of the longest list that a session has seen
abbrev pub seen_of : Share → ℕ
seen_of v = max (length v.entered) (length v.told)

-- it is a read
abbrev pub is_read : Line → Bool
is_read (read s q) = true
is_read (write s w) = false

-- the read jobs, in order
abbrev pub reads : List JobValue → List JobValue
reads jobs = filter (λ j. is_read j.work) jobs

-- the write lines that jobs are, in order
abbrev pub writes : List JobValue → List WriteLine
writes [] = []
writes (j ∷ js) = one_write j.line j.bytes (Ok j.work) ++ writes js

-- the last write line among jobs, if there is one
abbrev pub last_write : List JobValue → Option ℕ
last_write jobs = last_or None (map (λ a. a.line) (writes jobs))

-- Jobs of a session in a round: its write jobs are the write lines that the round has of it, in order, and no line is longer than one may be.
pub record AreOfRound (l : Begun) (sid : ℕ) (jobs : List JobValue) : Type 0 where
  pub writes : writes jobs ≡ filter (λ a. a.session == sid) l.lines
  pub lines : (i : ℕ) (j : JobValue) → slice_get jobs i ≡ Some j → j.line < 2 ^ 63
  pub short : (i : ℕ) (j : JobValue) → slice_get jobs i ≡ Some j → j.bytes ≤ 262_144

-- ---- what is kept of a read, and where a session stops

-- bytes are the reply to a read job at a snapshot of a list, which is at least this number
pub record RepliesAt (floor : ℕ) (list : List Batch) (j : JobValue) (at : ℕ) (bytes : List ℕ) : Type 0 where
  pub session : ℕ
  pub request : ReadSet
  pub asks : j.work ≡ read session request
  pub late : floor ≤ at
  pub within : at ≤ length list
  pub is : bytes ≡ reply_of list at j.line request

-- the kept reply of a read job: one at a snapshot of the list, or want of memory
pub record IsReply (floor : ℕ) (list : List Batch) (j : JobValue) (r : ReplyValue) : Type 0 where
  pub line : r.line ≡ j.line
  pub reply : IfSome r.reply (λ bytes. RepliesAt floor list j r.at bytes)

-- a session may stop for this cause at a job: at a read where its seat was turned away, and at a write for want of memory
abbrev pub IsCause : ℕ → ℕ → Line → StopCause → Type 0
IsCause before turned_away work cause.Shut = (is_read work ≡ true) × Rose before turned_away
IsCause before turned_away work cause.Memory = is_read work ≡ false

-- it stopped at the job that is next, and was turned away so often before
pub record IsStop (before : ℕ) (v : Share) (s : Stop) : Type 0 where
  pub job : JobValue
  pub there : slice_get v.jobs v.done ≡ Some job
  pub line : s.line ≡ job.line
  pub cause : IsCause before v.turned_away job.work s.cause

-- it holds the reading of the job that is next, which began at a snapshot of the list that it entered last
pub record IsReading (floor : ℕ) (v : Share) (r : Reading) : Type 0 where
  pub job : JobValue
  pub there : slice_get v.jobs v.done ≡ Some job
  pub session : ℕ
  pub request : ReadSet
  pub asks : job.work ≡ read session request
  pub at : ℕ
  pub began : v.at ≡ Some at
  pub begun : reading_of v.entered at request ≡ Ok r
  pub late : floor ≤ at
  pub within : at ≤ length v.entered

-- ---- a run

-- where the reply to a job may be kept, what is kept is right over these batches, under the text of the read that the job is
pub record IsLookRight (batches : List Batch) (work : Line) (l : LookValue) : Type 0 where
  pub keeps : KeepsRight batches l.cache
  pub text : (s : ℕ) (q : ReadSet) → work ≡ read s q → IsKeyOf l.text q

-- so it is of each of these jobs
abbrev pub LookRight : List Batch → List JobValue → Type 0
LookRight batches jobs = AllByRecursion (λ j. IfSome j.look (IsLookRight batches j.work)) jobs

-- A session before its first job in a round, with room for its replies; what may be looked up is right over what it was told.
pub record BeginsShare (l : Begun) (table : Book) (v : Share) : Type 0 where
  pub of_round : AreOfRound l v.sid v.jobs
  pub of_table : v.table ≡ table
  pub room : length (reads v.jobs) ≤ v.room
  pub done : v.done ≡ 0
  pub before : v.before ≡ None
  pub reading : v.reading ≡ None
  pub at : v.at ≡ None
  pub replies : v.replies ≡ []
  pub stop : v.stop ≡ None
  pub looks : LookRight v.told v.jobs

-- A session after some of its jobs: the read jobs among them have their replies, and no other; it holds at most a reading of the next job, and it stopped, if it did, at that job.
pub record RunsPart (l : Begun) (table : Book) (v w : Share) : Type 0 where
  pub of_round : AreOfRound l w.sid w.jobs
  pub of_table : w.table ≡ table
  pub room : length (reads w.jobs) ≤ w.room
  pub sid : w.sid ≡ v.sid
  pub jobs : w.jobs ≡ v.jobs
  pub done : w.done ≤ length w.jobs
  pub before : w.before ≡ last_write (take w.done w.jobs)
  pub entered : IsPrefix v.entered w.entered
  pub seen : seen_of v ≤ seen_of w
  pub turned_away : v.turned_away ≤ w.turned_away
  pub replies : AllZip (IsReply (seen_of v) w.entered) (reads (take w.done w.jobs)) w.replies
  pub reading : IfSome w.reading (IsReading (seen_of v) w)
  pub at : is_some w.at ≡ is_some w.reading
  pub stop : IfSome w.stop (IsStop v.turned_away w)
  pub looks : LookRight w.told w.jobs

-- it stopped, or all its jobs are done
abbrev pub IsOver : Share → Type 0
IsOver w = w.stop ≡ None → w.done ≡ length w.jobs

-- A session after a run: it stopped, or all its jobs are done and it holds no reading.
pub record RunsShare (l : Begun) (table : Book) (v w : Share) : Type 0 where
  pub part : RunsPart l table v w
  pub over : IsOver w
  pub ended : w.stop ≡ None → w.reading ≡ None
