-- What is taken of workers after a round.
use Rattle.std.specs.Prelude.{◌≡◌, ℕ, ◌≤◌, List, length, take, Option}
use Rattle.std.specs.List.{All, AllByRecursion}
use Rattle.logbook.specs.Pages.{Book}
use Rattle.gd_prim.specs.declared.Batch.{Batch}
use Rattle.gd_round_lines.specs.declared.work.ReadLine.{ReadLine}
use Rattle.gd_round_lines.specs.declared.worked.Worked.{Worked}
use Rattle.gd_round_lines.specs.Worked.{AreWorked}
use Rattle.gd_crew.specs.declared.seated.Seated.{Seated}
use Rattle.gd_crew.specs.declared.worker.Worker.{Worker}
use Rattle.gd_crew.specs.Runs.{ReplyValue}
use Rattle.gd_crew.specs.Joined.{IsReplyOver, HasRead, HasWorked}

-- the seat of a session is of this table
abbrev pub IsOfTable : Book → Seated → Type 0
IsOfTable table s = s.session.seat.history ≡ table

-- a list begins these batches, and goes no further than so many of them
abbrev pub IsFrontOf : List Batch → ℕ → List Batch → Type 0
IsFrontOf batches most list = (length list ≤ most) × (list ≡ take (length list) batches)

-- Replies to reads over a list were taken in: whatever the reads are, and whatever the list begins, what is kept of each line goes on to be right.
abbrev pub TakesReplies : ℕ → List ReplyValue → List (Option Worked) → List (Option Worked) → Type 0
TakesReplies first replies old new = (reads : List ReadLine) (batches : List Batch) (most : ℕ) (list : List Batch) → IsFrontOf batches most list → AllByRecursion (IsReplyOver reads list) replies
    → AreWorked first reads batches most old → AreWorked first reads batches most new

-- What sessions kept that fits a list was taken in: whatever the reads are, and whatever batches the list begins, what is kept of each line goes on to be right.
abbrev pub TakesSessions : ℕ → Book → List Batch → List Seated → List (Option Worked) → List (Option Worked) → Type 0
TakesSessions first table shown seated old new = (reads : List ReadLine) (batches : List Batch) → shown ≡ take (length shown) batches → All (HasRead table reads) seated
    → AreWorked first reads batches (length shown) old → AreWorked first reads batches (length shown) new

-- the same of workers with their sessions
abbrev pub TakesWorkers : ℕ → Book → List Batch → List Worker → List (Option Worked) → List (Option Worked) → Type 0
TakesWorkers first table shown workers old new = (reads : List ReadLine) (batches : List Batch) → shown ≡ take (length shown) batches → All (HasWorked table reads) workers
    → AreWorked first reads batches (length shown) old → AreWorked first reads batches (length shown) new
