-- A reading over the front of the batches that it reads.
use Rattle.std.proofs.Common.{◌≡◌, ℕ, ◌≤◌, List, map, take, Bool, true, false, Option, Some, None, Result, Ok, Err, refl, ap, ◌∙◌, arith}
use Rattle.std.specs.Prelude.{if◌then◌else◌, nat_lt}
use Rattle.std.proofs.lemmas.Bool.{ltb-false}
use Rattle.std.proofs.lemmas.List.{take-take}
use Rattle.gd_prim.specs.declared.Batch.{Batch}
use Rattle.gd_prim.specs.declared.Primitive.{Primitive}
use Rattle.gd_prim.specs.History.{prims_of, prims_at}
use Rattle.gd_bytes.specs.Cursor.{Cursor, cursor_of}
use Rattle.gd_defs.specs.Query.{Query}
use Rattle.gd_defs.specs.Asked.{Asked, Unknown, asked_query}
use Rattle.gd_tree.specs.Json.{list}
use Rattle.gd_defs.specs.Lines.{cursor_ahead, items_of, ok_line}
use Rattle.gd_defs.specs.Reply.{Mark, answer, answer_item, reply, within_reply}
use Rattle.gd_runs.specs.Request.{ReadRequest, ReadSet, one_query, queries, queries_reply, CursorAsk, no_cursor, first_page, page_after, asks_page}
use Rattle.gd_runs.specs.Core.{reading_of, query_reading, with_meaning}

-- the primitives below a dateline are those of each front that has it
pub front_prims : (bs : List Batch) (n m : ℕ) → m ≤ n → prims_at (take n bs) m ≡ prims_at bs m
front_prims bs n m below = ap prims_of (take-take m n bs below)

-- what a query is owed is the same over the batches below its dateline
pub front_query : (bs : List Batch) (k d : ℕ) (q : ReadRequest) (after : Option Mark) → reply (prims_at (take d bs) d) d k (asks_page q.cursor) after q.query ≡ reply (prims_at bs d) d k (asks_page q.cursor) after q.query
front_query bs k d q after = ap (λ (ps : List Primitive). reply ps d k (asks_page q.cursor) after q.query) (front_prims bs d d (omega arith))

-- and what several are
pub front_queries : (bs : List Batch) (k d : ℕ) (qs : List ReadRequest) → queries_reply (take d bs) d k qs ≡ queries_reply bs d k qs
front_queries bs k d qs = ap (λ (ps : List Primitive). within_reply d k (ok_line d k (list (items_of (map (λ q. answer_item (answer ps d (asks_page q.cursor) None q.query)) qs))))) (front_prims bs d d (omega arith))

any_meaning : (bs cs : List Batch) (r : ReadRequest) (d : ℕ) (after : Option Mark) (o : Result Asked Unknown) → with_meaning bs r d after o ≡ with_meaning cs r d after o
any_meaning bs cs r d after (Ok q) = refl
any_meaning bs cs r d after (Err u) = refl

front_meaning : (bs : List Batch) (r : ReadRequest) (n m : ℕ) (after : Option Mark) → m ≤ n
    → with_meaning (take n bs) r m after (asked_query (prims_at (take n bs) m) r.query) ≡ with_meaning bs r m after (asked_query (prims_at bs m) r.query)
front_meaning bs r n m after below = any_meaning (take n bs) bs r m after (asked_query (prims_at (take n bs) m) r.query)
    ∙ ap (λ (ps : List Primitive). with_meaning bs r m after (asked_query ps r.query)) (front_prims bs n m below)

-- the reading that begins at a snapshot is that over the batches below it
abbrev asking : CursorAsk → Query → ReadRequest
asking ask q = record { cursor = ask; query = q }

front_asking : (bs : List Batch) (n : ℕ) (ask : CursorAsk) (q : Query) → query_reading (take n bs) n (asking ask q) ≡ query_reading bs n (asking ask q)
front_asking bs n no_cursor q = front_meaning bs (asking no_cursor q) n n None (omega arith)
front_asking bs n first_page q = front_meaning bs (asking first_page q) n n None (omega arith)
front_asking bs n (page_after t) q = page (cursor_of t) refl
  where
    from : (c : Cursor) (b : Bool) → nat_lt n c.dateline ≡ b
        → (if b then Err (n, cursor_ahead c.dateline n) else with_meaning (take n bs) (asking (page_after t) q) c.dateline (Some c.after) (asked_query (prims_at (take n bs) c.dateline) q))
        ≡ (if b then Err (n, cursor_ahead c.dateline n) else with_meaning bs (asking (page_after t) q) c.dateline (Some c.after) (asked_query (prims_at bs c.dateline) q))
    from c true ahead = refl
    from c false ahead = front_meaning bs (asking (page_after t) q) n c.dateline (Some c.after) (ltb-false n c.dateline ahead)

    page : (o : Result Cursor ℕ) → cursor_of t ≡ o → query_reading (take n bs) n (asking (page_after t) q) ≡ query_reading bs n (asking (page_after t) q)
    page (Err offset) is = rw is refl
    page (Ok c) is = rw is (from c (nat_lt n c.dateline) refl)

pub front_reading : (bs : List Batch) (n : ℕ) (r : ReadSet) → reading_of (take n bs) n r ≡ reading_of bs n r
front_reading bs n (one_query r) = front_asking bs n r.cursor r.query
front_reading bs n (queries rs) = refl
