-- The parts of an event's line: its name, and the members of its value.
use Rattle.std.specs.Prelude.{ℕ, List, codes, Option, Some, None, Result, Ok, Err, if◌then◌else◌}
use Rattle.gd_tree.specs.Json.{Json, object, no_members, member}
use Rattle.gd_tree.specs.Look.{get, only}
use Rattle.gd_grammar.specs.Chain.{◌>>=◌, map_err}
use Rattle.gd_runs.specs.Core.{Event, begin, write, thaw}
use Rattle.gd_runs.specs.Request.{bad_line, bad_form, read_of, write_of, session_of}
use Rattle.gd_runs.specs.Input.{InputFault, no_line}
use Rattle.gd_runs.specs.Replay.{event_of, or_bad}

-- the one member of an object that has one
abbrev pub sole_of : Json → Option (List ℕ × Json)
sole_of (object (member name value no_members)) = Some (name, value)
sole_of _ = None

-- the event of this name whose value this is, or the fault of a line that is none
abbrev pub event_in : List ℕ → Json → Result Event InputFault
event_in name value = map_err no_line (event_of (object (member name value no_members)))

-- the session of an event, whose value has no members but of these names
abbrev pub sid_in : List (List ℕ) → Json → Option ℕ
sid_in names (object ms) = if only names ms then session_of (get (codes "sid") ms) else None
sid_in names _ = None

-- an event, or where there is none the fault of a line that is no event
abbrev pub or_no_line : Option Event → Result Event InputFault
or_no_line e = map_err no_line (or_bad e)

-- the event of a session and the value of a member, where both are there, or the fault of a line that is no event
abbrev pub made_in : {A : Type 0} → (ℕ → A → Result Event InputFault) → Option ℕ → Option A → Result Event InputFault
made_in make (Some sid) (Some part) = make sid part
made_in make _ _ = Err (no_line bad_line)

-- the event by which a session begins the read that an envelope spells
abbrev pub begun_of : ℕ → Json → Result Event InputFault
begun_of sid j = map_err no_line (map_err bad_form (read_of j) >>= λ r. Ok (begin sid r))

-- the event by which a session writes what an envelope spells
abbrev pub written_of : ℕ → Json → Result Event InputFault
written_of sid j = map_err no_line (map_err bad_form (write_of j) >>= λ w. Ok (write sid w))

-- the event by which a session goes on from a text with the read that an envelope spells
abbrev pub thawed_of : ℕ → List ℕ → Json → Result Event InputFault
thawed_of sid text j = map_err no_line (map_err bad_form (read_of j) >>= λ r. Ok (thaw sid r text))
