-- Lines with what they came to, and what the number of each had to take in.
use Rattle.std.specs.Prelude.{◌≡◌, ℕ, ◌+◌, ◌<◌, ◌≤◌, min, List, length, count_by, Bool, false, nat_le, Option, Some, None, slice_get, IsTrue}
use Rattle.gd_prim.specs.WellFormed.{max_moment}
use Rattle.gd_runs.specs.Legal.{Entry, History}
use Rattle.gd_runs.specs.Explained.Lines.{Numbered}
use Rattle.gd_runs.specs.Explained.Outcomes.{Outcome, DoesLine, MayBeEntry, session_of, stored_dateline, told_dateline}

-- a line with what it came to and what it printed
pub record Run : Type 0 where
  pub line : Numbered
  pub outcome : Outcome
  pub reply : List ℕ

-- two lines of one session
abbrev pub SameSession : Run → Run → Type 0
SameSession a b = (s : ℕ) × (session_of a.line.bytes ≡ Some s) × (session_of b.line.bytes ≡ Some s)

-- a line of a run is there, and stands in this round or an earlier one
abbrev pub is_upto : ℕ → Option Run → Bool
is_upto round None = false
is_upto round (Some r) = nat_le r.line.round round

-- the line of an entry stands in this round or an earlier one
abbrev pub stands_upto : List Run → ℕ → Entry → Bool
stands_upto runs round entry = is_upto round (slice_get runs entry.line)

-- what the number of line j had to take in: the loaded batches, what was printed as stored in earlier rounds, and what earlier lines of the session told
pub record TakesIn (least : ℕ) (runs : List Run) (j : ℕ) (r : Run) (n : ℕ) : Type 0 where
  pub loaded : least ≤ n
  pub rounds : (i : ℕ) (q : Run) (d : ℕ) → slice_get runs i ≡ Some q → q.line.round < r.line.round → stored_dateline q.outcome ≡ Some d → d ≤ n
  pub session : (i : ℕ) (q : Run) (d : ℕ) → i < j → slice_get runs i ≡ Some q → SameSession q r → told_dateline q.line.bytes q.outcome ≡ Some d → d ≤ n

-- the number of line j lies between what it had to take in and what could be there: the loaded batches, and the entries whose lines stand in its round or an earlier one
pub record IsBounded (h : History) (runs : List Run) (j : ℕ) (r : Run) (n : ℕ) : Type 0 where
  pub lower : TakesIn (length h.loaded) runs j r n
  pub upper : n ≤ length h.loaded + count_by (stands_upto runs r.line.round) h.entries

-- a moment is one that the clock may give, cut off at the last one
abbrev pub MayBe : (ℕ → Bool) → ℕ → Type 0
MayBe may moment = (m : ℕ) × IsTrue (may m) × (moment ≡ min m max_moment)

-- an entry, number e, is of one of these lines, which asks what it does and may be it
abbrev pub IsOfRun : List Run → ℕ → Entry → Type 0
IsOfRun runs e entry = (r : Run) × (slice_get runs entry.line ≡ Some r) × DoesLine r.line.bytes entry × MayBeEntry r.outcome e
