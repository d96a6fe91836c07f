-- What workers kept of the read lines of a round.
use Rattle.std.specs.Prelude.{◌≡◌, ◌≤◌, ℕ, ◌+◌, List, length, take, Option, Some, slice_get}
use Rattle.gd_prim.specs.declared.Batch.{Batch}
use Rattle.gd_runs.specs.Request.{reply_of}
use Rattle.gd_mql.specs.Requests.{read_set_view}
use Rattle.gd_round_lines.specs.declared.work.ReadLine.{ReadLine}
use Rattle.gd_round_lines.specs.declared.worked.Worked.{Worked}

-- what a worker kept of the read line at a place: the reply to one of the reads, at a number over a list that begins what is shown
pub record IsWorked (first : ℕ) (reads : List ReadLine) (batches : List Batch) (shown j : ℕ) (w : Worked) : Type 0 where
  pub place : ℕ
  pub read : ReadLine
  pub there : slice_get reads place ≡ Some read
  pub line : read.line ≡ first + j
  pub entered : List Batch
  pub within : w.at ≤ length entered
  pub below : length entered ≤ shown
  pub begins : entered ≡ take (length entered) batches
  pub is : w.reply.items ≡ reply_of entered w.at read.line (read_set_view read.request)

-- of each place what a worker kept, if it kept something
abbrev pub AreWorked : ℕ → List ReadLine → List Batch → ℕ → List (Option Worked) → Type 0
AreWorked first reads batches shown worked = (j : ℕ) (w : Worked) → slice_get worked j ≡ Some (Some w) → IsWorked first reads batches shown j w
