-- The JSON that the bytes of a line are, and the line that they spell.
use Rattle.std.specs.Prelude.{ℕ, List, [], length, nat_lt, Result, Err, if◌then◌else◌, codes}
use Rattle.gd_grammar.specs.Chain.{◌>>=◌, map_err}
use Rattle.gd_tree.specs.Json.{Json}
use Rattle.gd_json.specs.declared.from.JsonFault.{JsonFault}
use Rattle.gd_json.specs.declared.from.JsonFault.TheVariants as json_fault
use Rattle.gd_json.specs.Reading.{json_from}
use Rattle.gd_defs.specs.Lines.{Refusal, refusal, err_line_plain}
use Rattle.gd_runs.specs.Request.{Line, LineFault, line_of, fault_line}

-- why bytes are no line: too many, no JSON of this profile, or no line that JSON spells
pub data InputFault : Type 0 where
  line_too_long : InputFault
  no_json : JsonFault → InputFault
  no_line : LineFault → InputFault

-- the greatest number of bytes of a line
abbrev pub max_line : ℕ
max_line = 262_144

-- what the value of bytes is as a line, by a function, or why they are no JSON of this profile
abbrev pub value_line : (Json → Result Line InputFault) → Result Json JsonFault → Result Line InputFault
value_line line r = map_err no_json r >>= line

-- what bytes are as a line, by a function that says it of values
abbrev pub bytes_line : (Json → Result Line InputFault) → List ℕ → Result Line InputFault
bytes_line line bytes = if nat_lt max_line (length bytes) then Err line_too_long else value_line line (json_from bytes)

-- a line, or why a value is none
abbrev pub as_line : Result Line LineFault → Result Line InputFault
as_line r = map_err no_line r

-- the line that bytes spell
abbrev pub line_from : List ℕ → Result Line InputFault
line_from bytes = bytes_line (λ j. as_line (line_of j)) bytes

-- the refusal that a fault of JSON is
abbrev pub json_refusal : JsonFault → Refusal
json_refusal json_fault.BadJson = refusal (codes "BadJson") []
json_refusal json_fault.TooDeep = refusal (codes "TooDeep") []
json_refusal json_fault.TooWide = refusal (codes "TooWide") []
json_refusal json_fault.FloatValue = refusal (codes "FloatValue") []
json_refusal json_fault.Memory = refusal (codes "Memory") []

-- the reply line to bytes that are no line
abbrev pub input_fault_line : ℕ → InputFault → List ℕ
input_fault_line line line_too_long = err_line_plain line (refusal (codes "LineTooLong") [])
input_fault_line line (no_json f) = err_line_plain line (json_refusal f)
input_fault_line line (no_line f) = fault_line line f
