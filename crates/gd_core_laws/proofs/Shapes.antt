-- What holds of every answer and of every refusal with a dateline holds of the reply to a read, and of the reply line that a reading owes, whatever they ask.
use Rattle.std.proofs.Common.{ℕ, List, [], Bool, true, false, if◌then◌else◌, nat_lt, length, map, Option, Some, None, Result, Ok, Err}
use Rattle.gd_prim.specs.declared.Primitive.{Primitive}
use Rattle.gd_prim.specs.declared.Batch.{Batch}
use Rattle.gd_tree.specs.Json.{Json, list}
use Rattle.gd_bytes.specs.Cursor.{Cursor, cursor_of}
use Rattle.gd_bytes.specs.Frozen.{Frozen}
use Rattle.gd_defs.specs.History.{prims_at}
use Rattle.gd_defs.specs.Lines.{items_of, Refusal, ok_line, ok_cursor_line, err_line, too_large, bad_cursor, cursor_ahead}
use Rattle.gd_defs.specs.Asked.{Asked, Unknown, asked_query}
use Rattle.gd_defs.specs.Query.{Query}
use Rattle.gd_defs.specs.Reply.{Mark, Answer, answer, answer_item, answer_line, reply, within_reply, max_reply}
use Rattle.gd_runs.specs.Request.{ReadRequest, ReadSet, one_query, queries, CursorAsk, no_cursor, first_page, page_after, page_reply, query_reply, queries_reply, reply_of, asks_page}
use Rattle.gd_runs.specs.Scanned.{scan_order}
use Rattle.gd_runs.specs.Thawed.{body_answer, thawed_line}
use Rattle.gd_runs.specs.Core.{Reading, owed_line}

module _ (P : List ℕ → Type 0) (ok : (n k : ℕ) (j : Json) → P (ok_line n k j)) (cursor : (n k : ℕ) (c j : Json) → P (ok_cursor_line n k c j)) (err : (n k : ℕ) (r : Refusal) → P (err_line n k r)) (none : P []) where
  either : (b : Bool) (x y : List ℕ) → P x → P y → P (if b then x else y)
  either true x y p q = p
  either false x y p q = q

  pub within_each : (n k : ℕ) (line : List ℕ) → P line → P (within_reply n k line)
  within_each n k line p = either (nat_lt max_reply (length line)) _ line (err n k (too_large (length line))) p

  answer_each : (n k : ℕ) (a : Answer) → P (answer_line n k a)
  answer_each n k (Err r) = err n k r
  answer_each n k (Ok (None, j)) = within_each n k (ok_line n k j) (ok n k j)
  answer_each n k (Ok (Some c, j)) = within_each n k (ok_cursor_line n k c j) (cursor n k c j)

  -- ---- a read that is answered at once

  query_each : (prims : List Primitive) (n k : ℕ) (w : Bool) (after : Option Mark) (q : Query) → P (reply prims n k w after q)
  query_each prims n k w after q = answer_each n k (answer prims n w after q)

  behind_each : (bs : List Batch) (m k : ℕ) (q : Query) (c : Result Cursor ℕ) → P (page_reply bs m k q c)
  behind_each bs m k q (Err offset) = err m k (bad_cursor offset)
  behind_each bs m k q (Ok c) = either (nat_lt m c.dateline) (err_line m k (cursor_ahead c.dateline m)) (reply (prims_at bs c.dateline) c.dateline k true (Some c.after) q) (err m k (cursor_ahead c.dateline m))
      (query_each (prims_at bs c.dateline) c.dateline k true (Some c.after) q)

  asked_each : (bs : List Batch) (m k : ℕ) (r : ReadRequest) → P (query_reply bs m k r)
  asked_each bs m k r = by r.cursor
    where
      by : (a : CursorAsk) → P (query_reply bs m k (record r { cursor = a }))
      by no_cursor = query_each (prims_at bs m) m k false None r.query
      by first_page = query_each (prims_at bs m) m k true None r.query
      by (page_after t) = behind_each bs m k r.query (cursor_of t)

  -- several queries
  queries_each : (bs : List Batch) (m k : ℕ) (rs : List ReadRequest) → P (queries_reply bs m k rs)
  queries_each bs m k rs = within_each m k (ok_line m k (answers rs)) (ok m k (answers rs))
    where
      answers : List ReadRequest → Json
      answers rs = list (items_of (map (λ r. answer_item (answer (prims_at bs m) m (asks_page r.cursor) None r.query)) rs))

  pub read_each : (bs : List Batch) (m k : ℕ) (r : ReadSet) → P (reply_of bs m k r)
  read_each bs m k (one_query r) = asked_each bs m k r
  read_each bs m k (queries rs) = queries_each bs m k rs

  -- ---- a reading that was thawed

  thawed_each : (prims : List Primitive) (w : Bool) (k : ℕ) (f : Frozen) (r : Result Asked Unknown) → P (thawed_line prims w k f r)
  thawed_each prims w k f (Err u) = none
  thawed_each prims w k f (Ok q) = answer_each f.dateline k (body_answer prims q (scan_order prims q) f.dateline w f.after f.rows f.body)

  -- ---- what a reading owes

  pub owed_each : (bs : List Batch) (k : ℕ) (r : Reading) → P (owed_line bs k r)
  owed_each bs k r = by r.thawed r.request
    where
      by : (t : Option Frozen) (a : ReadSet) → P (owed_line bs k (record r { thawed = t; request = a }))
      by None (one_query q) = query_each (prims_at bs r.dateline) r.dateline k (asks_page q.cursor) r.after q.query
      by (Some f) (one_query q) = thawed_each (prims_at bs f.dateline) (asks_page q.cursor) k f (asked_query (prims_at bs f.dateline) q.query)
      by None (queries rs) = queries_each bs r.dateline k rs
      by (Some f) (queries rs) = queries_each bs r.dateline k rs
