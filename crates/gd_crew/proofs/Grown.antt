-- A reading and a reply over a list that has grown.
use Rattle.std.proofs.Common.{◌≡◌, ℕ, ◌≤◌, List, ◌++◌, length, Bool, true, false, Option, Some, None, Result, Ok, Err, refl, sym, ap, ◌∙◌, arith}
use Rattle.std.specs.Prelude.{if◌then◌else◌, nat_lt}
use Rattle.std.proofs.lemmas.Bool.{ltb-false}
use mathlib.Core.List.{IsPrefix}
use Rattle.gd_prim.specs.declared.Batch.{Batch}
use Rattle.gd_prim.specs.declared.Primitive.{Primitive}
use Rattle.gd_prim.specs.History.{prims_at}
use Rattle.gd_bytes.specs.Cursor.{Cursor, cursor_of}
use Rattle.gd_defs.specs.Query.{Query}
use Rattle.gd_defs.specs.Asked.{Asked, Unknown, asked_query}
use Rattle.gd_defs.specs.Lines.{cursor_ahead}
use Rattle.gd_defs.specs.Reply.{Mark}
use Rattle.gd_runs.specs.Request.{ReadRequest, ReadSet, one_query, queries, CursorAsk, no_cursor, first_page, page_after, reply_of}
use Rattle.gd_runs.specs.Core.{reading_of, query_reading, with_meaning}
use Rattle.gd_runs.proofs.Rounds.{prims_kept, reply_kept_at}

any_meaning : (bs cs : List Batch) (r : ReadRequest) (d : ℕ) (after : Option Mark) (o : Result Asked Unknown) → with_meaning bs r d after o ≡ with_meaning cs r d after o
any_meaning bs cs r d after (Ok q) = refl
any_meaning bs cs r d after (Err u) = refl

meaning_grows : (bs cs : List Batch) (r : ReadRequest) (m : ℕ) (after : Option Mark) → m ≤ length bs
    → with_meaning (bs ++ cs) r m after (asked_query (prims_at (bs ++ cs) m) r.query) ≡ with_meaning bs r m after (asked_query (prims_at bs m) r.query)
meaning_grows bs cs r m after below = any_meaning (bs ++ cs) bs r m after (asked_query (prims_at (bs ++ cs) m) r.query)
    ∙ ap (λ (ps : List Primitive). with_meaning bs r m after (asked_query ps r.query)) (prims_kept bs cs m below)

abbrev asking : CursorAsk → Query → ReadRequest
asking ask q = record { cursor = ask; query = q }

asking_grows : (bs cs : List Batch) (n : ℕ) (ask : CursorAsk) (q : Query) → n ≤ length bs → query_reading (bs ++ cs) n (asking ask q) ≡ query_reading bs n (asking ask q)
asking_grows bs cs n no_cursor q within = meaning_grows bs cs (asking no_cursor q) n None within
asking_grows bs cs n first_page q within = meaning_grows bs cs (asking first_page q) n None within
asking_grows bs cs n (page_after t) q within = page (cursor_of t) refl
  where
    from : (c : Cursor) (b : Bool) → nat_lt n c.dateline ≡ b
        → (if b then Err (n, cursor_ahead c.dateline n) else with_meaning (bs ++ cs) (asking (page_after t) q) c.dateline (Some c.after) (asked_query (prims_at (bs ++ cs) c.dateline) q))
        ≡ (if b then Err (n, cursor_ahead c.dateline n) else with_meaning bs (asking (page_after t) q) c.dateline (Some c.after) (asked_query (prims_at bs c.dateline) q))
    from c true ahead = refl
    from c false ahead = meaning_grows bs cs (asking (page_after t) q) c.dateline (Some c.after) (let below = ltb-false n c.dateline ahead in omega (arith, below, within))

    page : (o : Result Cursor ℕ) → cursor_of t ≡ o → query_reading (bs ++ cs) n (asking (page_after t) q) ≡ query_reading bs n (asking (page_after t) q)
    page (Err offset) is = rw is refl
    page (Ok c) is = rw is (from c (nat_lt n c.dateline) refl)

set_grows : (bs cs : List Batch) (n : ℕ) (r : ReadSet) → n ≤ length bs → reading_of (bs ++ cs) n r ≡ reading_of bs n r
set_grows bs cs n (one_query r) within = asking_grows bs cs n r.cursor r.query within
set_grows bs cs n (queries rs) within = refl

-- the reading that begins at a snapshot stays the same in a longer list
pub reading_grows : (bs cs : List Batch) (n : ℕ) (r : ReadSet) → IsPrefix bs cs → n ≤ length bs → reading_of cs n r ≡ reading_of bs n r
reading_grows bs cs n r front within = ap (λ (ds : List Batch). reading_of ds n r) (sym front.1) ∙ set_grows bs front.0 n r within

-- so does the reply at a snapshot
pub reply_grows : (bs cs : List Batch) (n k : ℕ) (r : ReadSet) → IsPrefix bs cs → n ≤ length bs → reply_of cs n k r ≡ reply_of bs n k r
reply_grows bs cs n k r front within = ap (λ (ds : List Batch). reply_of ds n k r) (sym front.1) ∙ reply_kept_at bs front.0 n k r within
