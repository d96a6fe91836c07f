-- What envelopes spell, step by step, and the lines in which they stand.
use Rattle.std.specs.Prelude.{ℕ, List, [], ◌∷◌, Bool, Option, Some, codes, option_and_then, Result, Ok, if◌then◌else◌}
use Rattle.std.specs.Option.{option_map_or}
use Rattle.gd_grammar.specs.Chain.{◌>>=◌, map_err}
use Rattle.gd_tree.specs.Json.{Json, object, Items}
use Rattle.gd_tree.specs.Look.{members_in}
use Rattle.gd_defs.specs.Query.{Fault, envelope, root_fault, or_root, query_of}
use Rattle.gd_form_laws.specs.WriteFaults.{change_fault}
use Rattle.gd_defs.specs.Write.{WriteSet, WriteRequest}
use Rattle.gd_runs.specs.Request.{Line, CursorAsk, ReadRequest, ReadSet, read, write, bad_form, read_of, write_of, is_misplaced, queries_in, write_set_of}
use Rattle.gd_runs.specs.Input.{InputFault, no_line, as_line}

-- the value, or where there is none a fault of the envelope
abbrev pub or_envelope : {A : Type 0} → Option A → Result A Fault
or_envelope x = or_root envelope x

-- a query with its page, by itself or among several, where the page may be asked for
abbrev pub paged_of : Bool → CursorAsk → Json → Result ReadRequest Fault
paged_of among c j = if is_misplaced among c j then root_fault envelope else (query_of j >>= λ q. Ok (record { cursor = c; query = q }))

-- the items of the member `queries` of an envelope that has no members but of that name and of another
abbrev pub few_of : List ℕ → Json → Option Items
few_of other j = option_and_then (queries_in (codes "queries" ∷ other ∷ [])) (members_in j)

-- the first fault of a clause in the envelope of a write
abbrev pub written_fault : Json → Option Fault
written_fault (object ms) = change_fault (object ms)
written_fault _ = Some (record { code = envelope; path = [] })

-- what the members of an envelope ask of a write
abbrev pub write_set_in : Json → Result WriteSet Fault
write_set_in j = option_map_or write_set_of (members_in j) (root_fault envelope)

-- the read that an envelope spells, or the fault of the line that it stands in
abbrev pub read_request_of : Json → Result ReadSet InputFault
read_request_of j = map_err no_line (map_err bad_form (read_of j))

-- the write that an envelope spells, or the fault of the line that it stands in
abbrev pub write_request_of : Json → Result WriteRequest InputFault
write_request_of j = map_err no_line (map_err bad_form (write_of j))

-- the line of a session with the read that an envelope spells
abbrev pub read_line_of : ℕ → Json → Result Line InputFault
read_line_of sid j = as_line (map_err bad_form (read_of j) >>= λ r. Ok (read sid r))

-- the line of a session with the write that an envelope spells
abbrev pub write_line_of : ℕ → Json → Result Line InputFault
write_line_of sid j = as_line (map_err bad_form (write_of j) >>= λ w. Ok (write sid w))
