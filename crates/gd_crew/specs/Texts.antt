-- Bytes of which lines of a round may have been kept.
use Rattle.std.specs.Prelude.{ℕ, List, map, replicate}
use Rattle.gd_input.specs.declared.line.RoundLine.{RoundLine}
use Rattle.gd_input.specs.declared.line.RoundLine.TheVariants.{Bytes, TooLong}
use Rattle.gd_input.specs.Rounds.{in_round}
use Rattle.gd_runs.specs.Explained.{Numbered}

-- bytes that are no line, since they are too many
unfoldable pub too_many : List ℕ
too_many = replicate 262_145 0

-- the bytes that were kept, or too many
abbrev pub kept_text : RoundLine → List ℕ
kept_text (Bytes v) = v.items
kept_text TooLong = too_many

-- lines as they may have been given
abbrev pub kept_lines : List RoundLine → List Numbered
kept_lines lines = in_round 0 (map kept_text lines)
