-- What telling the write lines of a round does to its numbers and replies.
use Rattle.std.specs.Prelude.{◌≡◌, ℕ, ◌+◌, ◌-◌, ◌<◌, ◌≤◌, List, length, Some, slice_get, slice_set}
use Rattle.gd_runs.specs.Side.{Told}
use Rattle.gd_core_laws.specs.Bounds.{kept_of}
use Rattle.gd_core_laws.specs.Round.{kept_reply}
use Rattle.gd_writer.specs.declared.outcome.WriteOf.{WriteOf}
use Rattle.gd_round_lines.specs.declared.work.LineNumber.{LineNumber}
use Rattle.gd_caller.specs.Told.{line_number, number_or, reply_or}

-- what is kept is of a line of the round, from line first up to an end
abbrev pub IsOutcomeWithin : ℕ → ℕ → WriteOf → Type 0
IsOutcomeWithin first end w = (first ≤ w.line) × (w.line < end)

-- what was kept of a line is told in place of its first reply
pub record TellsOne (first : ℕ) (was : Told) (numbers numbers_now : List LineNumber) (texts texts_now : List (List ℕ)) : Type 0 where
  pub low : first ≤ was.line
  pub number : numbers_now ≡ slice_set numbers (was.line - first) (line_number was.kept)
  pub reply : texts_now ≡ slice_set texts (was.line - first) (kept_reply was.line was.kept)

-- what was kept of lines is told, each in place of its first reply: each line has the numbers and the reply of what was kept of it, or those that it had
pub record TellsAll (first : ℕ) (was : List Told) (numbers numbers_now : List LineNumber) (texts texts_now : List (List ℕ)) : Type 0 where
  pub many : length numbers_now ≡ length numbers
  pub count : length texts_now ≡ length texts
  pub number : (j : ℕ) (n : LineNumber) → slice_get numbers_now j ≡ Some n → (m : LineNumber) × (slice_get numbers j ≡ Some m) × (n ≡ number_or m (kept_of was (first + j)))
  pub reply : (j : ℕ) (x : List ℕ) → slice_get texts_now j ≡ Some x → (y : List ℕ) × (slice_get texts j ≡ Some y) × (x ≡ reply_or (first + j) y (kept_of was (first + j)))
