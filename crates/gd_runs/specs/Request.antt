-- Lines of input: a session with a read or a write; and the replies to them.
use Rattle.std.specs.Prelude.{ℕ, ◌+◌, pos, List, [], ◌∷◌, length, Bool, true, false, not, ◌&&◌, ◌||◌, nat_lt, Result, Ok, Err, Option, Some, None, is_none, is_some, map, if◌then◌else◌, codes}
use Rattle.std.specs.Int.{is_in_range}
use Rattle.gd_prim.specs.declared.Batch.{Batch}
use Rattle.gd_prim.specs.declared.What.{What}
use Rattle.gd_prim.specs.declared.What.TheVariants as what
use Rattle.gd_tree.specs.Json.{Json, boolean, number, text, list, object, Items, item, no_items, Members as JsonMembers}
use Rattle.gd_defs.specs.Ids.{is_id, guid}
use Rattle.gd_defs.specs.History.{prims_at}
use Rattle.gd_bytes.specs.Cursor.{Cursor, cursor_of}
use Rattle.gd_grammar.specs.Chain.{◌>>=◌, map_err}
use Rattle.gd_defs.specs.Query.{envelope, Fault, Query, query_of, root_fault, or_root, each_numbered}
use Rattle.gd_tree.specs.Look.{get, only, items_len}
use Rattle.gd_defs.specs.Change.{Change, change_of}
use Rattle.gd_defs.specs.Write.{WriteSet, one_change, changes, WriteRequest, ChangeFault, unknown, not_unique, key_taken, stale_version, full, exec}
use Rattle.gd_defs.specs.Lines.{Refusal, refusal, refused_at, bad_cursor, cursor_ahead, items_of, ok_line, err_line, err_line_plain, count_json}
use Rattle.gd_defs.specs.Reply.{answer, answer_item, within_reply, reply, unknown_refusal, bad_query_refusal}

-- which page is asked for: the first without a cursor, the first with one, or the page after the text of a cursor
pub data CursorAsk : Type 0 where
  no_cursor first_page : CursorAsk
  page_after : List ℕ → CursorAsk

-- a read: the page that it asks for, and its query
pub record ReadRequest : Type 0 where
  pub cursor : CursorAsk
  pub query : Query

-- what a read asks: one query, or several that are answered together
pub data ReadSet : Type 0 where
  one_query : ReadRequest → ReadSet
  queries : List ReadRequest → ReadSet

-- a line: a session with a read or a write
pub data Line : Type 0 where
  read : ℕ → ReadSet → Line
  write : ℕ → WriteRequest → Line

-- why a JSON value is no line: it has not the members of one, or its request has a fault of form
pub data LineFault : Type 0 where
  bad_line : LineFault
  bad_form : Fault → LineFault

-- the page that the member `cursor` of an envelope asks for
abbrev pub cursor_ask : Option Json → Option CursorAsk
cursor_ask None = Some no_cursor
cursor_ask (Some (boolean false)) = Some no_cursor
cursor_ask (Some (boolean true)) = Some first_page
cursor_ask (Some (text t)) = Some (page_after t)
cursor_ask _ = None

-- a cursor is to be printed
abbrev pub asks_page : CursorAsk → Bool
asks_page no_cursor = false
asks_page _ = true

-- a query may have pages: it is a list without `return`
abbrev pub has_pages : Json → Bool
has_pages (object ms) = false
has_pages (list (item (object ms) no_items)) = is_none (get (codes "return") ms)
has_pages _ = true

-- the page after the text of a cursor is asked for
abbrev pub names_page : CursorAsk → Bool
names_page (page_after t) = true
names_page _ = false

-- the page may not be asked for: the query has none, or the text of a cursor stands among several queries
abbrev pub is_misplaced : Bool → CursorAsk → Json → Bool
is_misplaced among c j = (asks_page c && not (has_pages j)) || (among && names_page c)

-- the query with its page that an envelope spells, by itself or among several
abbrev pub request_of : Bool → Json → Result ReadRequest Fault
request_of among (object ms) = if only (codes "cursor" ∷ codes "query" ∷ []) ms then by (cursor_ask (get (codes "cursor") ms)) (get (codes "query") ms) else root_fault envelope
  where
    by : Option CursorAsk → Option Json → Result ReadRequest Fault
    by (Some c) (Some j) = if is_misplaced among c j then root_fault envelope else (query_of j >>= λ q. Ok (record { cursor = c; query = q }))
    by _ _ = root_fault envelope
request_of among _ = root_fault envelope

-- the items of a list of 1 to 16
abbrev pub few_items : Option Json → Option Items
few_items (Some (list js)) = if is_in_range 1 16 (items_len js) then Some js else None
few_items _ = None

-- the items of the member `queries` of an envelope that has no other members than these
abbrev pub queries_in : List (List ℕ) → JsonMembers → Option Items
queries_in names ms = if only names ms then few_items (get (codes "queries") ms) else None

-- an envelope has the member `queries`
abbrev pub has_queries : JsonMembers → Bool
has_queries ms = is_some (get (codes "queries") ms)

-- the read that an envelope spells: of one query, or of several
abbrev pub read_of : Json → Result ReadSet Fault
read_of (object ms) = if has_queries ms then (or_root envelope (queries_in (codes "queries" ∷ []) ms) >>= λ js. each_numbered (request_of true) 0 js >>= λ rs. Ok (queries rs))
    else (request_of false (object ms) >>= λ r. Ok (one_query r))
read_of _ = root_fault envelope

-- the id of the scope that the member `scope` of an envelope names
abbrev pub scope_ask : Option Json → Option (Option (List ℕ))
scope_ask None = Some None
scope_ask (Some (text t)) = if is_id t then Some (Some t) else None
scope_ask _ = None

-- the change that a clause in an envelope spells
abbrev pub clause_of : Json → Result Change Fault
clause_of (object q) = change_of (object q)
clause_of _ = root_fault envelope

-- the value of the member `query` of an envelope that has no other members than that and `scope`
abbrev pub query_in : JsonMembers → Option Json
query_in ms = if only (codes "query" ∷ codes "scope" ∷ []) ms then get (codes "query") ms else None

-- what the members of an envelope ask of a write: one change, or several
abbrev pub write_set_of : JsonMembers → Result WriteSet Fault
write_set_of ms = if has_queries ms then (or_root envelope (queries_in (codes "queries" ∷ codes "scope" ∷ []) ms) >>= λ js. each_numbered clause_of 0 js >>= λ cs. Ok (changes cs))
    else (or_root envelope (query_in ms) >>= λ j. clause_of j >>= λ c. Ok (one_change c))

-- the write that an envelope spells
abbrev pub write_of : Json → Result WriteRequest Fault
write_of (object ms) = or_root envelope (scope_ask (get (codes "scope") ms)) >>= λ s. write_set_of ms >>= λ a. Ok (record { scope = s; asks = a })
write_of _ = root_fault envelope

-- the session that the member `sid` of a line names, from 0 to 63
abbrev pub session_of : Option Json → Option ℕ
session_of (Some (number (pos n))) = if nat_lt n 64 then Some n else None
session_of _ = None

-- the line that a JSON value spells: an object of `sid` and either `read` or `write`
abbrev pub line_of : Json → Result Line LineFault
line_of (object ms) = if only (codes "read" ∷ codes "sid" ∷ []) ms || only (codes "sid" ∷ codes "write" ∷ []) ms
    then by (session_of (get (codes "sid") ms)) (get (codes "read") ms) (get (codes "write") ms) else Err bad_line
  where
    by : Option ℕ → Option Json → Option Json → Result Line LineFault
    by (Some s) (Some j) None = map_err bad_form (read_of j) >>= λ r. Ok (read s r)
    by (Some s) None (Some j) = map_err bad_form (write_of j) >>= λ w. Ok (write s w)
    by _ _ _ = Err bad_line
line_of _ = Err bad_line

-- ---- replies

-- the reply line to the page after a cursor, at the dateline of the cursor
abbrev pub page_reply : List Batch → ℕ → ℕ → Query → Result Cursor ℕ → List ℕ
page_reply batches snapshot line q (Err offset) = err_line snapshot line (bad_cursor offset)
page_reply batches snapshot line q (Ok c) = if nat_lt snapshot c.dateline then err_line snapshot line (cursor_ahead c.dateline snapshot)
    else reply (prims_at batches c.dateline) c.dateline line true (Some c.after) q

-- the reply line to several queries at a snapshot: the list of what each comes to
abbrev pub queries_reply : List Batch → ℕ → ℕ → List ReadRequest → List ℕ
queries_reply batches snapshot line rs = within_reply snapshot line (ok_line snapshot line
    (list (items_of (map (λ r. answer_item (answer (prims_at batches snapshot) snapshot (asks_page r.cursor) None r.query)) rs))))

-- the reply line to one query at a snapshot
abbrev pub query_reply : List Batch → ℕ → ℕ → ReadRequest → List ℕ
query_reply batches snapshot line r = by r.cursor
  where
    by : CursorAsk → List ℕ
    by no_cursor = reply (prims_at batches snapshot) snapshot line false None r.query
    by first_page = reply (prims_at batches snapshot) snapshot line true None r.query
    by (page_after t) = page_reply batches snapshot line r.query (cursor_of t)

-- the reply line to a read at a snapshot, which is a number of batches
abbrev pub reply_of : List Batch → ℕ → ℕ → ReadSet → List ℕ
reply_of batches snapshot line (one_query r) = query_reply batches snapshot line r
reply_of batches snapshot line (queries rs) = queries_reply batches snapshot line rs

-- the word for a limit
abbrev pub what_text : What → List ℕ
what_text what.Batch = codes "batch"
what_text what.Primitives = codes "primitives"
what_text what.Text = codes "text"
what_text what.Requests = codes "requests"
what_text what.History = codes "history"

-- the refusal that a fault of a write is
abbrev pub change_refusal : ChangeFault → Refusal
change_refusal (unknown u) = unknown_refusal u
change_refusal (not_unique path) = refused_at (codes "NotUnique") path
change_refusal (key_taken key holder) = refusal (codes "KeyTaken") ((codes "holder", text (guid holder)) ∷ (codes "key", text key) ∷ [])
change_refusal (stale_version previous next) = refusal (codes "StaleVersion") ((codes "previous", text (guid previous)) ∷ (codes "successor", text (guid next)) ∷ [])
change_refusal (full limit n) = refusal (codes "Full") ((codes "count", count_json n) ∷ (codes "what", text (what_text limit)) ∷ [])

-- what a write does after batches
abbrev pub exec_after : List Batch → WriteRequest → ℕ → Result (Batch × Json) ChangeFault
exec_after batches w moment = exec (prims_at batches (length batches)) (length batches) w moment

-- the reply line to a write that was stored or refused after n batches
abbrev pub write_line : ℕ → ℕ → Result (Batch × Json) ChangeFault → List ℕ
write_line n line (Ok done) = ok_line (n + 1) line done.1
write_line n line (Err f) = err_line n line (change_refusal f)

-- the reply line to what is no line
abbrev pub fault_line : ℕ → LineFault → List ℕ
fault_line line bad_line = err_line_plain line (refusal (codes "BadLine") [])
fault_line line (bad_form f) = err_line_plain line (bad_query_refusal f.code f.path)
