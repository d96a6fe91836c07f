-- What answering the lines of a round comes to.
use Rattle.std.specs.Prelude.{◌≡◌, ◌⊎◌, ℕ, ◌+◌, ◌≤◌, List, length, Bool, Option, Some, slice_get, codes}
use Rattle.std.specs.Option.{is_some}
use Rattle.gd_prim.specs.declared.Batch.{Batch}
use Rattle.gd_input.specs.declared.line.RoundLine.{RoundLine}
use Rattle.gd_input.specs.Rounds.{AreKept, in_round}
use Rattle.gd_runs.specs.Legal.{Entry, batches, size}
use Rattle.gd_runs.specs.Explained.{Numbered, Run, fault_count, disk_line}
use Rattle.gd_core_laws.specs.Fronts.{StandsForFront}
use Rattle.gd_core_laws.specs.Round.{StandsAt}
use Rattle.gd_core_laws.specs.Threads.{RoundServed}
use Rattle.gd_crew.specs.PassedOn.{Tells, CountsLines}
use Rattle.gd_crew.specs.Round.{LeavesSince}
use Rattle.gd_caller.specs.Served.{printed, StandsServed}
use Rattle.gd_caller.specs.Writes.{RoseBy}
use Rattle.gd_threads.specs.Served.{RoundsValue, state_at}

-- whichever lines came before, and however these were read, the round of them is served with these replies
abbrev pub Serves : {D C : Type 0} → (C → ℕ → Bool) → List RoundLine → RoundsValue D C → RoundsValue D C → List (List ℕ) → Type 0
Serves may lines old new replies = (loaded : List Batch) (before : List Numbered) (output : List ℕ) (runs : List Run) (round : ℕ) (texts : List (List ℕ)) → length runs ≡ old.lines → AreKept lines texts
    → StandsAt loaded (may old.side.clock) before output old.side.history (length old.side.shown) old.side.doubt runs
    → (more : List Run) × RoundServed (may old.side.clock) (state_at old.side) runs round (in_round round texts) (printed replies) (state_at new.side) more

-- the bytes stand for a state to which a round of these lines is served, with some output, whichever lines came before, and however these were read
abbrev pub StandsForRound : {D C : Type 0} → (C → ℕ → Bool) → List RoundLine → RoundsValue D C → List ℕ → Type 0
StandsForRound may lines old file = (loaded : List Batch) (before : List Numbered) (output : List ℕ) (runs : List Run) (round : ℕ) (texts : List (List ℕ)) → length runs ≡ old.lines → AreKept lines texts
    → StandsAt loaded (may old.side.clock) before output old.side.history (length old.side.shown) old.side.doubt runs
    → StandsServed (may old.side.clock) (state_at old.side) runs round (in_round round texts) file

-- a batch may count behind n others in a round: that of the entry that was in doubt when it began, behind all of the history then, or of a line of the round whose reply says that it may be stored
abbrev pub MayCountInRound : {D C : Type 0} → RoundsValue D C → List (List ℕ) → ℕ → Batch → Type 0
MayCountInRound old replies n b = (e : Entry) × (e.batch ≡ b)
    × (((old.side.doubt ≡ Some e) × (n ≡ size old.side.history)) ⊎ ((j : ℕ) × (e.line ≡ old.lines + j) × (slice_get replies j ≡ Some (disk_line e.line (codes "maybe")))))

-- the bytes stand for a front of the history with which a round ends, which has all of the history with which it began, or for that and one batch that may count behind it
abbrev pub StandsForRoundFront : {D C : Type 0} → RoundsValue D C → RoundsValue D C → List (List ℕ) → List ℕ → Type 0
StandsForRoundFront old new replies file = StandsForFront (batches old.side.history) (batches new.side.history) (MayCountInRound old replies) file

-- whichever bytes these lines had, their replies were counted in what sessions keep
abbrev pub CountsRound : {D C : Type 0} → List RoundLine → RoundsValue D C → RoundsValue D C → List (List ℕ) → Type 0
CountsRound lines old new replies = (texts : List (List ℕ)) → AreKept lines texts → CountsLines old.lines texts replies old.keeping new.keeping

-- The lines of a round were answered with these replies. Where what was served before stands, this round is served behind it. There is a reply for each line, the number of the next line rises by the lines, the batches that were loaded stay, the disk goes on to tell its content, the clock keeps its moments, and the disk's count rose by the replies that tell a failure of it. Where the disk tells its content, all that a stop left since the round began, in a write or between two, stands for a state to which the round is served, and for a front of the history with which it ends, or that and one batch that may count. The answers to reads were counted in what sessions keep.
pub record AnswersRound {D C : Type 0} (content : D → Option (List ℕ)) (moment : D → ℕ) (images : D → List ℕ → Type 0) (images_since : D → ℕ → List ℕ → Type 0) (faults : D → ℕ) (may : C → ℕ → Bool) (lines : List RoundLine) (old new : RoundsValue D C) (replies : List (List ℕ)) : Type 0 where
  pub served : Serves may lines old new replies
  pub many : length replies ≡ length lines
  pub next : new.lines ≡ old.lines + length lines
  pub loaded : new.side.history.loaded ≡ old.side.history.loaded
  pub told : is_some (content new.side.log.disk) ≡ is_some (content old.side.log.disk)
  pub moments : Tells (content old.side.log.disk) → LeavesSince moment images images_since (moment old.side.log.disk) new.side.log.disk (StandsForRound may lines old)
  pub fronts : Tells (content old.side.log.disk) → LeavesSince moment images images_since (moment old.side.log.disk) new.side.log.disk (StandsForRoundFront old new replies)
  pub clock : may new.side.clock ≡ may old.side.clock
  pub later : faults old.side.log.disk ≤ faults new.side.log.disk
  pub rose : RoseBy (faults old.side.log.disk) (faults new.side.log.disk) (fault_count old.lines replies)
  pub counted : CountsRound lines old new replies
