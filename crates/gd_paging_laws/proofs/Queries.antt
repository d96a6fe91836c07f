-- A line that is a read of one query has a query that a JSON value spells.
use Rattle.std.proofs.Common.{◌≡◌, ℕ, List, [], ◌∷◌, Bool, true, false, ◌||◌, nat_lt, if◌then◌else◌, length, Option, Some, None, Result, Ok, Err, codes, refl, subst}
use Rattle.gd_grammar.specs.Chain.{◌>>=◌, map_err}
use Rattle.gd_tree.specs.Json.{Json, null, boolean, number, text, list, object, Items}
use Rattle.gd_tree.specs.Look.{get, only}
use Rattle.gd_json.specs.declared.from.JsonFault.{JsonFault}
use Rattle.gd_json.specs.Reading.{json_from}
use Rattle.gd_defs.specs.Query.{Fault, Query, envelope, root_fault, or_root, each_numbered, query_of}
use Rattle.gd_defs.specs.Write.{WriteRequest}
use Rattle.gd_runs.specs.Request.{CursorAsk, cursor_ask, is_misplaced, request_of, queries_in, has_queries, read_of, write_of, ReadRequest, ReadSet, one_query, queries, Line, LineFault, read, write, bad_form, session_of, line_of}
use Rattle.gd_runs.specs.Input.{line_too_long, max_line, as_line, value_line, line_from}

-- a JSON value spells the query
abbrev pub IsSpelled : Query → Type 0
IsSpelled q = (j : Json) × (query_of j ≡ Ok q)

-- what was read, if it is a query with its page, has a query that is spelled
abbrev ReadSpelled : Result ReadRequest Fault → Type 0
ReadSpelled (Ok r) = IsSpelled r.query
ReadSpelled (Err f) = Unit {0}

-- what was read, if it is a read of one query, has a query that is spelled
abbrev SetSpelled : Result ReadSet Fault → Type 0
SetSpelled (Ok (one_query r)) = IsSpelled r.query
SetSpelled (Ok (queries rs)) = Unit {0}
SetSpelled (Err f) = Unit {0}

abbrev LineSpelled : {F : Type 0} → Result Line F → Type 0
LineSpelled (Ok (read s (one_query r))) = IsSpelled r.query
LineSpelled (Ok (read s (queries rs))) = Unit {0}
LineSpelled (Ok (write s w)) = Unit {0}
LineSpelled (Err f) = Unit {0}

-- ---- envelopes

made : (c : CursorAsk) (j : Json) (r : Result Query Fault) → query_of j ≡ r → ReadSpelled (r >>= λ q. Ok (record { cursor = c; query = q }))
made c j (Ok q) is = (j, is)
made c j (Err f) is = tt

asked : (c : CursorAsk) (j : Json) (b : Bool) → ReadSpelled (if b then root_fault envelope else (query_of j >>= λ q. Ok (record { cursor = c; query = q })))
asked c j true = tt
asked c j false = made c j (query_of j) refl

request_spelled : (j : Json) → ReadSpelled (request_of false j)
request_spelled null = tt
request_spelled (boolean b) = tt
request_spelled (number n) = tt
request_spelled (text t) = tt
request_spelled (list js) = tt
request_spelled (object ms) = by (only (codes "cursor" ∷ codes "query" ∷ []) ms) (cursor_ask (get (codes "cursor") ms)) (get (codes "query") ms) refl refl refl
  where
    by : (b : Bool) (c : Option CursorAsk) (j : Option Json) → only (codes "cursor" ∷ codes "query" ∷ []) ms ≡ b → cursor_ask (get (codes "cursor") ms) ≡ c → get (codes "query") ms ≡ j → ReadSpelled (request_of false (object ms))
    by false c j is cursor there = rw is tt
    by true (Some c) (Some j) is cursor there = rw (is, cursor, there) (asked c j (is_misplaced false c j))
    by true (Some c) None is cursor there = rw (is, cursor, there) tt
    by true None j is cursor there = rw (is, cursor) tt

-- one query
of_one : (r : Result ReadRequest Fault) → ReadSpelled r → SetSpelled (r >>= λ r. Ok (one_query r))
of_one (Ok r) is = is
of_one (Err f) is = tt

-- several
of_several : (r : Result (List ReadRequest) Fault) → SetSpelled (r >>= λ rs. Ok (queries rs))
of_several (Ok rs) = tt
of_several (Err f) = tt

of_items : (r : Result Items Fault) → SetSpelled (r >>= λ js. each_numbered (request_of true) 0 js >>= λ rs. Ok (queries rs))
of_items (Ok js) = of_several (each_numbered (request_of true) 0 js)
of_items (Err f) = tt

read_spelled : (j : Json) → SetSpelled (read_of j)
read_spelled null = tt
read_spelled (boolean b) = tt
read_spelled (number n) = tt
read_spelled (text t) = tt
read_spelled (list js) = tt
read_spelled (object ms) = by (has_queries ms)
  where
    by : (b : Bool) → SetSpelled (if b then (or_root envelope (queries_in (codes "queries" ∷ []) ms) >>= λ js. each_numbered (request_of true) 0 js >>= λ rs. Ok (queries rs))
        else (request_of false (object ms) >>= λ r. Ok (one_query r)))
    by true = of_items (or_root envelope (queries_in (codes "queries" ∷ []) ms))
    by false = of_one (request_of false (object ms)) (request_spelled (object ms))

-- ---- lines

of_read : (s : ℕ) (r : Result ReadSet Fault) → SetSpelled r → LineSpelled (map_err bad_form r >>= λ r. Ok (read s r))
of_read s (Ok (one_query r)) is = is
of_read s (Ok (queries rs)) is = tt
of_read s (Err f) is = tt

of_write : (s : ℕ) (w : Result WriteRequest Fault) → LineSpelled (map_err bad_form w >>= λ w. Ok (write s w))
of_write s (Ok w) = tt
of_write s (Err f) = tt

line_spelled : (j : Json) → LineSpelled (line_of j)
line_spelled null = tt
line_spelled (boolean b) = tt
line_spelled (number n) = tt
line_spelled (text t) = tt
line_spelled (list js) = tt
line_spelled (object ms) =
    by (only (codes "read" ∷ codes "sid" ∷ []) ms || only (codes "sid" ∷ codes "write" ∷ []) ms) (session_of (get (codes "sid") ms)) (get (codes "read") ms) (get (codes "write") ms) refl refl refl refl
  where
    by : (b : Bool) (s : Option ℕ) (r w : Option Json) → (only (codes "read" ∷ codes "sid" ∷ []) ms || only (codes "sid" ∷ codes "write" ∷ []) ms) ≡ b → session_of (get (codes "sid") ms) ≡ s
        → get (codes "read") ms ≡ r → get (codes "write") ms ≡ w → LineSpelled (line_of (object ms))
    by false s r w is session reads writes = rw is tt
    by true None r w is session reads writes = rw (is, session) tt
    by true (Some s) (Some j) None is session reads writes = rw (is, session, reads, writes) (of_read s (read_of j) (read_spelled j))
    by true (Some s) None (Some j) is session reads writes = rw (is, session, reads, writes) (of_write s (write_of j))
    by true (Some s) (Some j) (Some k) is session reads writes = rw (is, session, reads, writes) tt
    by true (Some s) None None is session reads writes = rw (is, session, reads, writes) tt

-- ---- bytes

named : (r : Result Line LineFault) → LineSpelled r → LineSpelled (as_line r)
named (Ok (read s (one_query r))) is = is
named (Ok (read s (queries rs))) is = tt
named (Ok (write s w)) is = tt
named (Err f) is = tt

valued : (r : Result Json JsonFault) → LineSpelled (value_line (λ j. as_line (line_of j)) r)
valued (Ok j) = named (line_of j) (line_spelled j)
valued (Err f) = tt

from_spelled : (bytes : List ℕ) → LineSpelled (line_from bytes)
from_spelled bytes = by (nat_lt max_line (length bytes))
  where
    by : (b : Bool) → LineSpelled (if b then Err line_too_long else value_line (λ j. as_line (line_of j)) (json_from bytes))
    by true = tt
    by false = valued (json_from bytes)

-- the query of a line that is a read of one query
pub asks_spelled : (bytes : List ℕ) (s : ℕ) (r : ReadRequest) → line_from bytes ≡ Ok (read s (one_query r)) → IsSpelled r.query
asks_spelled bytes s r is = subst LineSpelled is (from_spelled bytes)
