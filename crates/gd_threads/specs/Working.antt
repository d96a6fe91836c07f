-- What running the lines of a round does to a write side, once they were read.
use Rattle.std.specs.Prelude.{◌≡◌, ◌⊎◌, ℕ, ◌≤◌, List, length, map, Bool, true, Option}
use Rattle.gd_prim.specs.declared.Batch.{Batch}
use Rattle.gd_runs.specs.Legal.{size}
use Rattle.gd_runs.specs.Side.{KeepsHistory}
use Rattle.gd_crew.specs.PassedOn.{SideValue, KeepsAll}
use Rattle.gd_round_lines.specs.declared.work.Works.{Works}
use Rattle.gd_round_lines.specs.Works.{write_of}
use Rattle.gd_caller.specs.Writes.{WritesLeft}
use Rattle.gd_crew.specs.Joined.{IsJoined}

-- all of the history is shown, or, where there was no memory for that, what was shown before, and nothing else changed
pub record ShowsMore {D C : Type 0} (old new : SideValue D C) : Type 0 where
  pub list : List Batch
  pub is : new ≡ record old { shown = list }
  pub above : length old.shown ≤ length list
  pub below : length list ≤ size old.history
  pub all : (length list ≡ size old.history) ⊎ (length list ≡ length old.shown)

-- a side keeps what it keeps, and since now its disk left nothing but what it leaves now
pub record KeepsNow {D C : Type 0} (content : D → Option (List ℕ)) (moment : D → ℕ) (images : D → List ℕ → Type 0) (images_since : D → ℕ → List ℕ → Type 0) (may : C → ℕ → Bool) (side : SideValue D C) : Type 0 where
  pub keeps : KeepsAll content images may side
  pub only : (file : List ℕ) → images_since side.log.disk (moment side.log.disk) file → images side.log.disk file

-- the side comes out of the lock of a round with these lines, or, where not all of them were read, nothing was done
pub record Joins {D C : Type 0} (content : D → Option (List ℕ)) (moment : D → ℕ) (images : D → List ℕ → Type 0) (images_since : D → ℕ → List ℕ → Type 0) (faults : D → ℕ) (may : C → ℕ → Bool) (works : Works) (old new : SideValue D C) : Type 0 where
  pub keeps : KeepsNow content moment images images_since may old
  pub locked : IsJoined content moment images images_since faults may (map write_of works.writes.items) old new
  pub whole : (works.whole ≡ true) ⊎ (new ≡ old)

-- The writes of a round were run: the side comes out of the lock, with a history that goes with what is kept of them, and the caller wrote what was left.
pub record RunsWrites {D C : Type 0} (content : D → Option (List ℕ)) (moment : D → ℕ) (images : D → List ℕ → Type 0) (images_since : D → ℕ → List ℕ → Type 0) (faults : D → ℕ) (may : C → ℕ → Bool) (works : Works) (old new : SideValue D C) : Type 0 where
  pub joined : SideValue D C
  pub joins : Joins content moment images images_since faults may works old joined
  pub history : KeepsHistory (may joined.clock) joined.history joined.doubt joined.outcomes
  pub most : length joined.shown ≤ size joined.history
  pub left : WritesLeft content moment images images_since faults may joined new (map write_of works.writes.items)
