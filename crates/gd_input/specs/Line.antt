-- Lines of bounded length.
use Rattle.std.specs.Prelude.{◌≡◌, ℕ, ◌<◌, ◌≤◌, List, length}
use Rattle.gd_input.specs.declared.line.RoundLine.{RoundLine}
use Rattle.gd_input.specs.declared.line.RoundLine.TheVariants.{Bytes, TooLong}
use Rattle.gd_runs.specs.Input.{max_line}

-- the bytes are kept where they are within the limit, and else told as too long
abbrev pub IsKept : ℕ → RoundLine → List ℕ → Type 0
IsKept limit (Bytes v) line = (v.items ≡ line) × (length line ≤ limit)
IsKept limit TooLong line = limit < length line

-- its bytes are no more than so many
abbrev pub HasAtMost : ℕ → RoundLine → Type 0
HasAtMost limit (Bytes v) = length v.items ≤ limit
HasAtMost limit TooLong = Unit {0}

-- its bytes are no more than those of a line
abbrev pub IsShort : RoundLine → Type 0
IsShort line = HasAtMost max_line line
