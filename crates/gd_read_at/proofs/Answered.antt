-- What a reading owes, and the reply at the number at which it began.
use Rattle.std.proofs.Common.{◌≡◌, ◌≢◌, refl, ℕ, zero, suc, ◌≤◌, List, [], ◌∷◌, ◌++◌, length, map, take, drop, Bool, true, false, Option, None, Some, Result, Ok, Err, sym, ap, ◌∙◌, arith}
use Rattle.std.specs.Prelude.{IfOk, nat_lt, if◌then◌else◌}
use Rattle.std.specs.Global.{Vec}
use Rattle.gd_base.specs.declared.memory.Memory.{Memory}
use Rattle.gd_prim.specs.declared.Batch.{Batch}
use Rattle.gd_prim.specs.declared.Primitive.{Primitive}
use Rattle.gd_prim.specs.History.{prims_of, prims_at}
use Rattle.gd_tree.specs.Json.{list}
use Rattle.gd_bytes.specs.Cursor.{Cursor, cursor_of}
use Rattle.gd_bytes.specs.Frozen.{Frozen}
use Rattle.gd_defs.specs.Asked.{Asked, Unknown, asked_query}
use Rattle.gd_defs.specs.Query.{Query}
use Rattle.gd_defs.specs.Lines.{err_line, cursor_ahead, items_of, ok_line}
use Rattle.gd_defs.specs.Reply.{Mark, answer, answer_item, reply, within_reply}
use Rattle.gd_runs.specs.Request.{ReadRequest, ReadSet, one_query, queries, CursorAsk, no_cursor, first_page, page_after, asks_page, reply_of}
use Rattle.gd_runs.specs.Core as core
use Rattle.gd_runs.proofs.Rounds.{reply_kept_at}
use Rattle.gd_core_laws.proofs.Reading.{owes, refuses}
use Rattle.gd_read.specs.declared.reading.Reading.{Reading}
use Rattle.gd_read.specs.declared.fault.ReadFault.{ReadFault}
use Rattle.gd_read.specs.declared.fault.ReadFault.TheVariants as fault
use Rattle.gd_read.specs.Begun.{fault_at}
use Rattle.gd_read.specs.Reading.{reading_view}

take_twice : (n : ℕ) (xs : List Batch) → take n (take n xs) ≡ take n xs
take_twice zero xs = refl
take_twice (suc n) [] = refl
take_twice (suc n) (x ∷ xs) = ap (λ l. x ∷ l) (take_twice n xs)

parts : (n : ℕ) (xs : List Batch) → take n xs ++ drop n xs ≡ xs
parts zero xs = refl
parts (suc n) [] = refl
parts (suc n) (x ∷ xs) = ap (λ l. x ∷ l) (parts n xs)

taken : (n : ℕ) (xs : List Batch) → n ≤ length xs → length (take n xs) ≡ n
taken zero xs within = refl
taken (suc n) [] within = absurd (omega (arith, within))
taken (suc n) (x ∷ xs) within = ap suc (taken n xs (omega (arith, within)))

-- the reply over the first batches is that over all
front_reply : (all : List Batch) (m k : ℕ) (r : ReadSet) → m ≤ length all → reply_of (take m all) m k r ≡ reply_of all m k r
front_reply all m k r within =
    let long = taken m all within in
    sym (reply_kept_at (take m all) (drop m all) m k r (omega (arith, long))) ∙ ap (λ (bs : List Batch). reply_of bs m k r) (parts m all)

-- ---- what a reading owes

prims_below : (bs : List Batch) (n : ℕ) → prims_at (take n bs) n ≡ prims_at bs n
prims_below bs n = ap prims_of (take_twice n bs)

-- over the batches below its dateline it is what it is over all
owed_fresh : (bs : List Batch) (k n : ℕ) (q : ReadSet) (after : Option Mark) → core.owed_line (take n bs) k (record { request = q; dateline = n; after = after; thawed = None }) ≡ core.owed_line bs k (record { request = q; dateline = n; after = after; thawed = None })
owed_fresh bs k n (one_query r) after = ap (λ (ps : List Primitive). reply ps n k (asks_page r.cursor) after r.query) (prims_below bs n)
owed_fresh bs k n (queries rs) after = ap (λ (ps : List Primitive). within_reply n k (ok_line n k (list (items_of (map (λ r. answer_item (answer ps n (asks_page r.cursor) None r.query)) rs))))) (prims_below bs n)

owed_below : (bs : List Batch) (k : ℕ) (reading : core.Reading) → reading.thawed ≡ None → core.owed_line (take reading.dateline bs) k reading ≡ core.owed_line bs k reading
owed_below bs k reading none = by reading.request reading.dateline reading.after reading.thawed none
  where
    by : (q : ReadSet) (n : ℕ) (after : Option Mark) (thawed : Option Frozen) → thawed ≡ None
        → core.owed_line (take n bs) k (record { request = q; dateline = n; after = after; thawed = thawed }) ≡ core.owed_line bs k (record { request = q; dateline = n; after = after; thawed = thawed })
    by q n after None same = owed_fresh bs k n q after
    by q n after (Some f) same = cc

-- one that has begun was not thawed
meant_fresh : (bs : List Batch) (r : ReadRequest) (n : ℕ) (after : Option Mark) (a : Result Asked Unknown) (reading : core.Reading) → core.with_meaning bs r n after a ≡ Ok reading → reading.thawed ≡ None
meant_fresh bs r n after (Ok q) reading is = let same : record { request = one_query r; dateline = n; after = after; thawed = None } ≡ reading = cc in sym (ap (λ (x : core.Reading). x.thawed) same)
meant_fresh bs r n after (Err u) reading is = cc

query_fresh : (bs : List Batch) (n : ℕ) (ask : CursorAsk) (q : Query) (reading : core.Reading) → core.query_reading bs n (record { cursor = ask; query = q }) ≡ Ok reading → reading.thawed ≡ None
query_fresh bs n no_cursor q reading is = meant_fresh bs (record { cursor = no_cursor; query = q }) n None (asked_query (prims_at bs n) q) reading is
query_fresh bs n first_page q reading is = meant_fresh bs (record { cursor = first_page; query = q }) n None (asked_query (prims_at bs n) q) reading is
query_fresh bs n (page_after t) q reading is = by (cursor_of t) refl
  where
    request : ReadRequest
    request = record { cursor = page_after t; query = q }

    from : (c : Cursor) (b : Bool) → (if b then Err (n, cursor_ahead c.dateline n) else core.with_meaning bs request c.dateline (Some c.after) (asked_query (prims_at bs c.dateline) q)) ≡ Ok reading → reading.thawed ≡ None
    from c true is = cc
    from c false is = meant_fresh bs request c.dateline (Some c.after) (asked_query (prims_at bs c.dateline) q) reading is

    by : (o : Result Cursor ℕ) → cursor_of t ≡ o → reading.thawed ≡ None
    by (Err offset) e = let other = rw e at is in cc
    by (Ok c) e = let at = rw e at is in from c (nat_lt n c.dateline) at

thawed_none : (bs : List Batch) (n : ℕ) (r : ReadSet) (reading : core.Reading) → core.reading_of bs n r ≡ Ok reading → reading.thawed ≡ None
thawed_none bs n (one_query r) reading is = query_fresh bs n r.cursor r.query reading is
thawed_none bs n (queries rs) reading is = let same : record { request = queries rs; dateline = n; after = None; thawed = None } ≡ reading = cc in sym (ap (λ (x : core.Reading). x.thawed) same)

-- LAW: what a reading owes that began at a number is the reply there
pub read_ok : (all view below : List Batch) (m k : ℕ) (r : ReadSet) (reading : Reading) (made : Result (Vec ℕ) Memory) → m ≤ length all → view ≡ take m all → core.reading_of view (length view) r ≡ Ok (reading_view reading)
    → (d : ℕ) → d ≡ (reading_view reading).dateline → below ≡ take d view → IfOk made (λ bytes. bytes.items ≡ core.owed_line below k (reading_view reading)) → IfOk made (λ bytes. bytes.items ≡ reply_of all m k r)
read_ok all view below m k r reading (Err e) within view_is begun d d_is below_is owed = tt
read_ok all view below m k r reading (Ok bytes) within view_is begun d d_is below_is owed =
    let long : length view ≡ m = ap length view_is ∙ taken m all within in
    owed
    ∙ ap (λ bs. core.owed_line bs k (reading_view reading)) (below_is ∙ ap (λ n. take n view) d_is)
    ∙ owed_below view k (reading_view reading) (thawed_none view (length view) r (reading_view reading) begun)
    ∙ owes view (length view) k r (reading_view reading) begun
    ∙ ap (λ n. reply_of view n k r) long ∙ ap (λ bs. reply_of bs m k r) view_is ∙ front_reply all m k r within

-- and where none begins the refusal
pub read_err : (all view : List Batch) (m k : ℕ) (r : ReadSet) (f : ReadFault) (made : Result (Vec ℕ) Memory) → m ≤ length all → view ≡ take m all → (f ≢ fault.Memory → core.reading_of view (length view) r ≡ Err (fault_at (length view) f))
    → IfOk made (λ bytes. bytes.items ≡ err_line (fault_at m f).0 k (fault_at m f).1) → IfOk made (λ bytes. f ≢ fault.Memory) → IfOk made (λ bytes. bytes.items ≡ reply_of all m k r)
read_err all view m k r f (Err e) within view_is refused prints memory = tt
read_err all view m k r f (Ok bytes) within view_is refused prints memory =
    let long : length view ≡ m = ap length view_is ∙ taken m all within in
    prints
    ∙ ap (λ n. err_line (fault_at n f).0 k (fault_at n f).1) (sym long)
    ∙ refuses view (length view) k r (fault_at (length view) f) (refused memory)
    ∙ ap (λ n. reply_of view n k r) long ∙ ap (λ bs. reply_of bs m k r) view_is ∙ front_reply all m k r within
