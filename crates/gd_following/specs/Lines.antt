-- The lines that a node takes: asks, groups that it is given, and reads.
use Rattle.std.specs.Prelude.{ℕ, List, length, nat_lt, Option, Some, None, Result, Ok, Err, if◌then◌else◌, codes}
use Rattle.gd_grammar.specs.Chain.{◌>>=◌, map_err}
use Rattle.gd_tree.specs.Json.{Json}
use Rattle.gd_tree.specs.Look.{member_of}
use Rattle.gd_json.specs.Reading.{json_from}
use Rattle.gd_runs.specs.Request.{ReadSet, LineFault, bad_line, bad_form, read_of}
use Rattle.gd_runs.specs.Input.{InputFault, line_too_long, no_json, no_line}
use Rattle.gd_following.specs.Parts as parts
use Rattle.gd_following.specs.Parts.{sole, reader}

-- a line: it asks for at most so many batches from a number on, gives the bytes of a group from a number on, or is the read of a session
pub data FollowLine : Type 0 where
  ask : (from most : ℕ) → FollowLine
  give : (from : ℕ) → (group : List ℕ) → FollowLine
  read : (session : ℕ) → ReadSet → FollowLine

-- the greatest number of bytes of a line
abbrev pub max_line : ℕ
max_line = 1_048_576

-- the line that asks so
abbrev pub ask_line : Option (ℕ × ℕ) → Result FollowLine LineFault
ask_line (Some a) = Ok (ask a.0 a.1)
ask_line None = Err bad_line

-- the line that gives this group
abbrev pub give_line : Option (ℕ × List ℕ) → Result FollowLine LineFault
give_line (Some g) = Ok (give g.0 g.1)
give_line None = Err bad_line

-- the line of a session with the read that an envelope spells
abbrev pub read_line : ℕ → Json → Result FollowLine LineFault
read_line s e = map_err bad_form (read_of e) >>= λ r. Ok (read s r)

-- The line that a JSON value spells: an object of `ask` alone, of `give` alone, or of just `read` and `sid`.
abbrev pub follow_of : Json → Result FollowLine LineFault
follow_of j = by (sole (codes "ask") j) (sole (codes "give") j) (reader j) (member_of (codes "read") j)
  where
    by : Option Json → Option Json → Option ℕ → Option Json → Result FollowLine LineFault
    by (Some a) _ _ _ = ask_line (parts.asked a)
    by None (Some g) _ _ = give_line (parts.given g)
    by None None (Some s) (Some e) = read_line s e
    by None None _ _ = Err bad_line

-- the line that bytes spell, or why they are none
abbrev pub follow_from : List ℕ → Result FollowLine InputFault
follow_from bytes = if nat_lt max_line (length bytes) then Err line_too_long else map_err no_json (json_from bytes) >>= λ j. map_err no_line (follow_of j)
