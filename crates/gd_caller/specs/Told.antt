-- What is told of write lines, by numbers and by replies.
use Rattle.std.specs.Prelude.{◌≡◌, ℕ, ◌+◌, List, Option, None, Some, option_and_then, slice_get}
use Rattle.gd_runs.specs.Side.{Kept, kept_stored, number_of, Told}
use Rattle.gd_core_laws.specs.Bounds.{kept_of}
use Rattle.gd_core_laws.specs.Round.{kept_reply}
use Rattle.gd_round_lines.specs.declared.work.LineNumber.{LineNumber}

-- the entry that a write stored and that is shown, if it did
abbrev pub entry_of : Kept → Option ℕ
entry_of (kept_stored e r) = Some e
entry_of _ = None

-- what a line came to, by numbers
abbrev pub line_number : Kept → LineNumber
line_number kept = record { number = number_of kept; entry = entry_of kept }

-- the numbers of what is told of a line, and old ones where nothing is
abbrev pub number_or : LineNumber → Option Kept → LineNumber
number_or old None = old
number_or old (Some kept) = line_number kept

-- the reply to line k by what is told of it, and an old one where nothing is
abbrev pub reply_or : ℕ → List ℕ → Option Kept → List ℕ
reply_or k old None = old
reply_or k old (Some kept) = kept_reply k kept

-- the numbers of what is told of a line
abbrev pub IsNumber : Option Kept → LineNumber → Type 0
IsNumber told n = (n.number ≡ option_and_then number_of told) × (n.entry ≡ option_and_then entry_of told)

-- the numbers of what is told of lines, the first of them line k
abbrev pub AreNumbers : ℕ → List Told → List LineNumber → Type 0
AreNumbers k outs numbers = (j : ℕ) (n : LineNumber) → slice_get numbers j ≡ Some n → IsNumber (kept_of outs (k + j)) n
