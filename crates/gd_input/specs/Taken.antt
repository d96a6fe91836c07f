-- What was taken of an input, and the rounds that lie wholly in it.
use Rattle.std.specs.Prelude.{ℕ, ◌+◌, ◌≤◌, List, [], ◌∷◌, ◌++◌, length, ◌==◌, if◌then◌else◌, Option}
use Rattle.std.specs.Io.KnownBytes.{Consumes}
use Rattle.gd_base.specs.Counts.{RoseBy}
use Rattle.gd_runs.specs.Explained.Lines.{without_return, max_round}

-- at least so many bytes were taken: off the front of what was left, where that is known, and by the count of the bytes that were given
abbrev pub TakesAtLeast : ℕ → (old new : Option (List ℕ)) → (given_old given_new : ℕ) → Type 0
TakesAtLeast n old new given_old given_new = ((bytes : List ℕ) × Consumes old new bytes × (n ≤ length bytes)) × RoseBy given_old given_new n

-- the lines that newlines end in bytes, behind a piece that has begun
abbrev pub ended_lines : List ℕ → List ℕ → List (List ℕ)
ended_lines piece [] = []
ended_lines piece (c ∷ bytes) = if c == 10 then without_return piece ∷ ended_lines [] bytes else ended_lines (piece ++ c ∷ []) bytes

-- how many rounds end with these lines, where so many lines of the present one were taken already
abbrev pub rounds_ended : ℕ → List (List ℕ) → ℕ
rounds_ended in_round [] = 0
rounds_ended in_round ([] ∷ lines) = 1 + rounds_ended 0 lines
rounds_ended in_round ((c ∷ cs) ∷ lines) = if in_round + 1 == max_round then 1 + rounds_ended 0 lines else rounds_ended (in_round + 1) lines

-- how many rounds lie wholly in bytes: each ends with the newline of a blank line or of its 256th line
abbrev pub whole_rounds : List ℕ → ℕ
whole_rounds bytes = rounds_ended 0 (ended_lines [] bytes)
