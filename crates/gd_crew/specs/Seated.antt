-- A session with its jobs as the definitions have it, and what a worker's run does to all of its sessions.
use Rattle.std.specs.Prelude.{◌≡◌, ℕ, ◌+◌, ◌<◌, ◌≤◌, List, [], ◌∷◌, ◌++◌, length, map, Option, Some, None, Result, Ok, Err, option_map, slice_index_or, vec_capacity}
use Rattle.logbook.specs.Pages.{Book}
use Rattle.gd_base.specs.declared.memory.Memory.{Memory}
use Rattle.gd_mql.specs.Requests.{read_set_view, write_view}
use Rattle.gd_runs.specs.Request.{Line, read, write}
use Rattle.gd_runs.specs.Side.{Begun}
use Rattle.gd_seats.specs.Session.{SessionValue, reads as what_reads}
use Rattle.gd_crew.specs.declared.job.Job.{Job}
use Rattle.gd_crew.specs.declared.job.LookUp.{LookUp}
use Rattle.gd_crew.specs.declared.job.ReadReply.{ReadReply}
use Rattle.gd_crew.specs.declared.job.StopCause.TheVariants as cause
use Rattle.gd_crew.specs.declared.job.Work.{Work}
use Rattle.gd_crew.specs.declared.job.Work.TheVariants.{Read, Write}
use Rattle.gd_crew.specs.declared.reading.ReadTurn.{ReadTurn}
use Rattle.gd_crew.specs.declared.reading.ReadTurn.TheVariants as turn
use Rattle.gd_crew.specs.declared.seated.Seated.{Seated}
use Rattle.gd_crew.specs.Reading.{bytes_of}
use Rattle.gd_crew.specs.Runs.{JobValue, LookValue, ReplyValue, Share, reads, BeginsShare, RunsPart, RunsShare, IsOver}

-- the read or the write that this refers to
abbrev pub work_view : Work → Line
work_view (Read sid r look) = read sid (read_set_view r.now)
work_view (Write sid w) = write sid (write_view w.now)

-- where a reply may be kept
abbrev pub look_view : LookUp → LookValue
look_view l = record { cache = l.cache.now; text = l.text.now }

-- where the reply to a read may be kept, if it may
abbrev pub look_in : Work → Option LookValue
look_in (Read sid r look) = option_map look_view look
look_in (Write sid w) = None

-- the job that this is
abbrev pub job_view : Job → JobValue
job_view j = record { line = j.line; bytes = j.bytes; work = work_view j.work; look = look_in j.work }

-- the kept reply that this is
abbrev pub reply_view : ReadReply → ReplyValue
reply_view r = record { line = r.line; at = r.at; reply = bytes_of r.reply }

-- the session in a round that this is
abbrev pub share_of : Seated → Share
share_of s = record {
  sid = s.sid;
  jobs = map job_view s.jobs.items;
  done = s.done;
  before = s.before;
  table = s.session.seat.history;
  entered = s.session.seat.entered;
  told = s.session.seat.told;
  turned_away = s.session.seat.turned_away;
  reading = what_reads s.session;
  at = s.at;
  replies = map reply_view s.replies.items;
  room = vec_capacity s.replies;
  stop = s.stop;
}

-- Of a session and its jobs nothing is done yet, and there is room for the reply of each read.
pub record IsNew (sid : ℕ) (session : SessionValue) (jobs : List Job) (v : Share) : Type 0 where
  pub is : v ≡ record {
    sid = sid;
    jobs = map job_view jobs;
    done = 0;
    before = None;
    table = session.seat.history;
    entered = session.seat.entered;
    told = session.seat.told;
    turned_away = session.seat.turned_away;
    reading = what_reads session;
    at = None;
    replies = [];
    room = v.room;
    stop = None;
  }
  pub enough : length (reads (map job_view jobs)) ≤ v.room

-- ---- a turn

-- the reply of the next job is kept, and nothing else changes
pub record KeepsReply (v : Seated) (k at : ℕ) (reply : Option (List ℕ)) (w : Seated) : Type 0 where
  pub sid : w.sid ≡ v.sid
  pub session : w.session ≡ v.session
  pub jobs : w.jobs ≡ v.jobs
  pub stop : w.stop ≡ v.stop
  pub before : w.before ≡ v.before
  pub done : w.done ≡ v.done + 1
  pub ended : w.at ≡ None
  pub room : vec_capacity w.replies ≡ vec_capacity v.replies
  pub replies : map reply_view w.replies.items ≡ map reply_view v.replies.items ++ record { line = k; at = at; reply = reply } ∷ []

-- what a turn at read line k came to is taken in
abbrev pub TakesRead : Seated → ℕ → ReadTurn → Seated → Type 0
TakesRead v k (turn.Going n) w = w ≡ record v { at = Some n }
TakesRead v k (turn.Answered n reply) w = KeepsReply v k n (bytes_of reply) w
TakesRead v k turn.Shut w = w ≡ record v { stop = Some (record { line = k; cause = cause.Shut }) }

-- what a turn at write line k came to is taken in
abbrev pub TakesWritten : Seated → ℕ → Result (Unit {0}) Memory → Seated → Type 0
TakesWritten v k (Ok done) w = w ≡ record v { before = Some k; done = v.done + 1 }
TakesWritten v k (Err none) w = w ≡ record v { stop = Some (record { line = k; cause = cause.Memory }) }

-- ---- all sessions of a worker

-- a session may begin
abbrev pub Begins : Begun → Book → Seated → Type 0
Begins l table s = BeginsShare l table (share_of s)

-- it has run a part of its jobs
abbrev pub IsStarted : Begun → Book → Seated → Type 0
IsStarted l table s = (v : Share) × RunsPart l table v (share_of s)

-- each session goes on from where it stood
abbrev pub AllGo : Begun → Book → List Seated → List Seated → Type 0
AllGo l table old new = (k : ℕ) (d : Seated) (v : Share) → k < length old → RunsPart l table v (share_of (slice_index_or old k d)) → RunsPart l table v (share_of (slice_index_or new k d))

-- each session stopped, or all its jobs are done
abbrev pub AreOver : List Seated → Type 0
AreOver new = (k : ℕ) (d : Seated) → k < length new → IsOver (share_of (slice_index_or new k d))

-- the sessions are those that there were, in their order, and each has run
abbrev pub AllRun : Begun → Book → List Seated → List Seated → Type 0
AllRun l table old new = (length new ≡ length old) × ((k : ℕ) (d : Seated) → k < length old → RunsShare l table (share_of (slice_index_or old k d)) (share_of (slice_index_or new k d)))
