-- Requests as the definitions have them.
use Rattle.std.specs.Prelude.{◌≡◌, ◌≢◌, map, Result, Ok, Err, MatchResult}
use Rattle.gd_json.specs.View.{view}
use Rattle.gd_defs.specs.Query as query
use Rattle.gd_defs.specs.Change as change
use Rattle.gd_defs.specs.Write as write
use Rattle.gd_runs.specs.Request as request
use Rattle.gd_runs.specs.Input.{InputFault}
use Rattle.gd_form_laws.specs.Spelled.{spelled_query}
use Rattle.gd_mql.specs.Clauses.{clause_view}
use Rattle.gd_mql.specs.Line.{fault_view}
use Rattle.gd_form_laws.specs.SpelledChange.{spelled_change}
use Rattle.gd_fault.specs.declared.fault.LineFault.{LineFault}
use Rattle.gd_fault.specs.declared.fault.LineFault.TheVariants as fault
use Rattle.gd_mql.specs.declared.request.CursorAsk.{CursorAsk}
use Rattle.gd_mql.specs.declared.request.CursorAsk.TheVariants as cursor
use Rattle.gd_mql.specs.declared.request.ReadRequest.{ReadRequest}
use Rattle.gd_mql.specs.declared.request.ReadSet.{ReadSet}
use Rattle.gd_mql.specs.declared.request.ReadSet.TheVariants as asked
use Rattle.gd_mql.specs.declared.request.ChangeRequest.{ChangeRequest}
use Rattle.gd_mql.specs.declared.request.WriteSet.{WriteSet}
use Rattle.gd_mql.specs.declared.request.WriteSet.TheVariants as wanted
use Rattle.gd_mql.specs.declared.request.WriteRequest.{WriteRequest}
use Rattle.gd_mql.specs.declared.request.Query.{Query}
use Rattle.gd_mql.specs.declared.request.Line.{Line}
use Rattle.gd_mql.specs.declared.request.Line.TheVariants.{Read, Write}

-- the page that this asks for
abbrev pub cursor_view : CursorAsk → request.CursorAsk
cursor_view cursor.Absent = request.no_cursor
cursor_view cursor.First = request.first_page
cursor_view (cursor.After t) = request.page_after t

-- the read that this is
abbrev pub read_view : ReadRequest → request.ReadRequest
read_view r = record { cursor = cursor_view r.cursor; query = spelled_query (view r.query) }

-- what this asks: one query, or several
abbrev pub read_set_view : ReadSet → request.ReadSet
read_set_view (asked.One r) = request.one_query (read_view r)
read_set_view (asked.Several rs) = request.queries (map read_view rs)

-- the change that this is
abbrev pub asked_change : ChangeRequest → change.Change
asked_change c = spelled_change (view c.query)

-- what this asks: one change, or several
abbrev pub write_set_view : WriteSet → write.WriteSet
write_set_view (wanted.One c) = write.one_change (asked_change c)
write_set_view (wanted.Several cs) = write.changes (map asked_change cs)

-- the write that this is
abbrev pub write_view : WriteRequest → write.WriteRequest
write_view w = record { scope = w.scope; asks = write_set_view w.asks }

-- the query that this is
abbrev pub query_view : Query → query.Query
query_view q = record { listed = q.listed; directives = (clause_view q.root).0; members = (clause_view q.root).1 }

-- the line that this is
abbrev pub line_view : Line → request.Line
line_view (Read sid r) = request.read sid (read_set_view r)
line_view (Write sid w) = request.write sid (write_view w)

-- the call gives the line or the fault that is expected, or else memory was wanting
abbrev pub GivesLine : Result request.Line InputFault → Result Line LineFault → Type 0
GivesLine expected result = MatchResult result (λ l. expected ≡ Ok (line_view l)) (λ f. f ≢ fault.Memory → expected ≡ Err (fault_view f))

-- the call gives what is expected, seen through `view`, or the fault that is expected, or else memory was wanting
abbrev pub GivesAsked : {A B : Type 0} → (A → B) → Result B InputFault → Result A LineFault → Type 0
GivesAsked view expected result = MatchResult result (λ a. expected ≡ Ok (view a)) (λ f. f ≢ fault.Memory → expected ≡ Err (fault_view f))
