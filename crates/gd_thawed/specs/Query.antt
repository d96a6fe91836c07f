-- What the reading of one query owes, and what its slices give.
use Rattle.std.specs.Prelude.{List, Bool, true, false}
use Rattle.gd_prim.specs.declared.Batch.{Batch}
use Rattle.gd_prim.specs.History.{prims_of}
use Rattle.gd_defs.specs.Asked.{Asked}
use Rattle.gd_defs.specs.Reply as reply
use Rattle.gd_bytes.specs.Frozen.{Frozen}
use Rattle.gd_runs.specs.Scanned.{scan_order}
use Rattle.gd_runs.specs.Thawed.{body_answer}
use Rattle.gd_reply.specs.Answers.{Tells}
use Rattle.gd_thawed.specs.Stages.{StageOwes}
use Rattle.gd_thawed.specs.declared.query.ThawedQuery.{ThawedQuery}
use Rattle.gd_thawed.specs.declared.query.Turn.{Turn}
use Rattle.gd_thawed.specs.declared.query.Turn.TheVariants as turn

-- it goes on over the batches below its dateline, and owes this answer there
abbrev pub IsGoing : List Batch → reply.Answer → ThawedQuery → Type 0
IsGoing batches owed r = StageOwes batches owed r.subject r.stage r.window

-- the answer that a frozen reading of a query owes over the batches below its dateline
abbrev pub owed_by_text : List Batch → Asked → Bool → Frozen → reply.Answer
owed_by_text batches q with_cursor f = body_answer (prims_of batches) q (scan_order (prims_of batches) q) f.dateline with_cursor f.after f.rows f.body

-- a slice that came to an answer gives this one
abbrev pub Gives : reply.Answer → Turn → Type 0
Gives expected (turn.Answer a) = Tells expected a
Gives expected turn.Unfinished = Unit {0}

-- a slice came to no answer
abbrev pub is_unanswered : Turn → Bool
is_unanswered (turn.Answer a) = false
is_unanswered turn.Unfinished = true
