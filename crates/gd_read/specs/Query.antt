-- What the reading of one query stands for, and what its slices give.
use Rattle.std.specs.Prelude.{List, Bool, true, false}
use Rattle.gd_prim.specs.declared.Batch.{Batch}
use Rattle.gd_defs.specs.Reply as reply
use Rattle.gd_runs.specs.Core as core
use Rattle.gd_reply.specs.Answers.{Tells}
use Rattle.gd_read.specs.Subject.{core_reading, answer_of}
use Rattle.gd_read.specs.Stages.{StageOwes}
use Rattle.gd_read.specs.declared.query.QueryReading.{QueryReading}
use Rattle.gd_read.specs.declared.query.Turn.{Turn}
use Rattle.gd_read.specs.declared.query.Turn.TheVariants as turn

-- the reading of the core
abbrev pub one_view : QueryReading → core.Reading
one_view r = core_reading r.subject

-- it goes on over the batches below its dateline, and owes its answer there
abbrev pub QueryGoes : List Batch → QueryReading → Type 0
QueryGoes batches r = StageOwes batches r.subject r.stage r.window

-- the answer that it owes over these
abbrev pub owed_answer : List Batch → QueryReading → reply.Answer
owed_answer batches r = answer_of batches r.subject

-- a slice that came to an answer gives this one
abbrev pub Gives : reply.Answer → Turn → Type 0
Gives expected (turn.Answer a) = Tells expected a
Gives expected turn.Unfinished = Unit {0}

-- a slice came to no answer
abbrev pub is_unanswered : Turn → Bool
is_unanswered (turn.Answer a) = false
is_unanswered turn.Unfinished = true
