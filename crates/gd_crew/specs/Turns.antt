-- What a turn at a job does to a session in a round.
use Rattle.std.specs.Prelude.{◌≡◌, ℕ, ◌+◌, ◌≤◌, ◌⊎◌, List, [], ◌∷◌, ◌++◌, length, Option, Some, None, Ok, IfSome}
use mathlib.Core.List.{IsPrefix}
use Rattle.gd_base.specs.Counts.{Rose}
use Rattle.gd_runs.specs.Request.{ReadSet, reply_of}
use Rattle.gd_runs.specs.Core.{Reading, reading_of, owed_line}
use Rattle.gd_crew.specs.declared.job.StopCause.{StopCause}
use Rattle.gd_crew.specs.declared.job.StopCause.TheVariants as cause
use Rattle.gd_crew.specs.Runs.{JobValue, Share, seen_of}

-- a turn leaves a session's number, jobs and table, and the room for its replies
pub record SameJobs (v w : Share) : Type 0 where
  pub sid : w.sid ≡ v.sid
  pub jobs : w.jobs ≡ v.jobs
  pub table : w.table ≡ v.table
  pub room : w.room ≡ v.room

-- the lists that it entered last and was told of go on from what they were, it has seen no less, and it was not turned away
pub record Grows (v w : Share) : Type 0 where
  pub entered : IsPrefix v.entered w.entered
  pub told : IsPrefix v.told w.told
  pub seen : seen_of v ≤ seen_of w
  pub turned_away : w.turned_away ≡ v.turned_away

-- no job more is done, no reply more is kept, and it goes on
pub record Waits (v w : Share) : Type 0 where
  pub done : w.done ≡ v.done
  pub before : w.before ≡ v.before
  pub replies : w.replies ≡ v.replies
  pub stop : w.stop ≡ None

-- the next job is done, and its reply is kept
pub record Answers (v : Share) (j : JobValue) (snapshot : ℕ) (reply : Option (List ℕ)) (w : Share) : Type 0 where
  pub done : w.done ≡ v.done + 1
  pub before : w.before ≡ v.before
  pub replies : w.replies ≡ v.replies ++ record { line = j.line; at = snapshot; reply = reply } ∷ []
  pub reading : w.reading ≡ None
  pub at : w.at ≡ None
  pub stop : w.stop ≡ None

-- it stops at the next job
pub record Halts (v : Share) (j : JobValue) (why : StopCause) (w : Share) : Type 0 where
  pub done : w.done ≡ v.done
  pub before : w.before ≡ v.before
  pub replies : w.replies ≡ v.replies
  pub stop : w.stop ≡ Some (record { line = j.line; cause = why })

-- A turn at a read job: it begins a reading at a number of the list that it then entered, which is no less than it had seen, or goes on with the one that it holds; a reply that is no reading's is kept, or the one that its reading owes, or want of memory; or it is turned away.
pub data ReadTurn (v : Share) (j : JobValue) (q : ReadSet) (w : Share) : Type 0 where
  begins : (r : Reading) (at : ℕ) → Grows v w → seen_of v ≤ at → at ≤ length w.entered → reading_of w.entered at q ≡ Ok r → w.reading ≡ Some r → w.at ≡ Some at → Waits v w → ReadTurn v j q w
  goes_on : Grows v w → w.reading ≡ v.reading → w.at ≡ v.at → Waits v w → ReadTurn v j q w
  is_refused : (at : ℕ) (reply : Option (List ℕ)) → Grows v w → IfSome reply (λ bytes. (seen_of v ≤ at) × (at ≤ length w.entered) × (bytes ≡ reply_of w.entered at j.line q)) → Answers v j at reply w → ReadTurn v j q w
  is_answered : (r : Reading) (at : ℕ) (reply : Option (List ℕ)) → Grows v w → v.reading ≡ Some r → v.at ≡ Some at → IfSome reply (λ bytes. bytes ≡ owed_line w.entered j.line r) → Answers v j at reply w → ReadTurn v j q w
  is_shut : IsPrefix v.entered w.entered → IsPrefix v.told w.told → seen_of v ≤ seen_of w → Rose v.turned_away w.turned_away → v.turned_away ≤ w.turned_away → w.reading ≡ v.reading → w.at ≡ v.at → Halts v j cause.Shut w → ReadTurn v j q w

-- A turn at a write job: it is written, and the session may learn of more; or there was no memory.
pub record WriteTurn (v : Share) (j : JobValue) (w : Share) : Type 0 where
  pub entered : w.entered ≡ v.entered
  pub told : IsPrefix v.told w.told
  pub turned_away : w.turned_away ≡ v.turned_away
  pub reading : w.reading ≡ v.reading
  pub at : w.at ≡ v.at
  pub replies : w.replies ≡ v.replies
  pub step : ((w.done ≡ v.done + 1) × (w.before ≡ Some j.line) × (w.stop ≡ None)) ⊎ ((w.done ≡ v.done) × (w.before ≡ v.before) × (w.stop ≡ Some (record { line = j.line; cause = cause.Memory })))
