-- The cursor that the line of a page tells, and the store of an earlier page.
use Rattle.std.proofs.Common.{◌≡◌, ℕ, Bool, true, false, if◌then◌else◌, List, [], ◌∷◌, ◌++◌, length, flat_map, refl, Some, None, Result, Ok, Err, ap, arith, append_assoc, length-append, sym, ◌∙◌}
use Rattle.std.specs.Prelude.{nat_lt}
use Rattle.gd_prim.specs.declared.Batch.{Batch}
use Rattle.gd_prim.specs.Builtin.{builtin}
use Rattle.gd_prim.specs.History.{prims_of, prims_at}
use Rattle.gd_bytes.specs.Cursor.{Cursor, cursor_of}
use Rattle.gd_tree.specs.Json.{Json, list, Items}
use Rattle.gd_defs.specs.Query.{Query}
use Rattle.gd_defs.specs.Lines.{err_line, bad_cursor, cursor_ahead, ok_cursor_line}
use Rattle.gd_defs.specs.Reply.{reply}
use Rattle.gd_runs.specs.Request.{CursorAsk, no_cursor, first_page, page_after, page_reply, query_reply}
use Rattle.gd_paging_laws.specs.Paged.{Grown, AreWithin}
use Rattle.gd_paging_laws.specs.Told.{IsCursor}
use Rattle.gd_paging_laws.proofs.Told.{not_refused}
use Rattle.gd_paging_laws.proofs.Lines.{line_cursor}

-- the cursor of a page is false or a clear text
pub page_told : (batches : List Batch) (n line d : ℕ) (ask : CursorAsk) (q : Query) (c : Json) (js : Items) → query_reply batches n line (record { cursor = ask; query = q }) ≡ ok_cursor_line d line c (list js) → IsCursor c
page_told batches n line d no_cursor q c js e = line_cursor (prims_at batches n) q n line d false None c js e
page_told batches n line d first_page q c js e = line_cursor (prims_at batches n) q n line d true None c js e
page_told batches n line d (page_after t) q c js e = by (cursor_of t) e
  where
    by : (r : Result Cursor ℕ) → page_reply batches n line q r ≡ ok_cursor_line d line c (list js) → IsCursor c
    by (Err offset) e = absurd (not_refused n d line line (bad_cursor offset) c (list js) e)
    by (Ok k) e = behind (nat_lt n k.dateline) e
      where
        behind : (b : Bool) → (if b then err_line n line (cursor_ahead k.dateline n) else reply (prims_at batches k.dateline) k.dateline line true (Some k.after) q) ≡ ok_cursor_line d line c (list js) → IsCursor c
        behind true e = absurd (not_refused n d line line (cursor_ahead k.dateline n) c (list js) e)
        behind false e = line_cursor (prims_at batches k.dateline) q k.dateline line d true (Some k.after) c js e

prims_append : (first more : List Batch) → prims_of (first ++ more) ≡ prims_of first ++ flat_map (λ b. b.prims) more
unfolding prims_of
prims_append first more = ap (λ l. builtin ++ l) (flat first) ∙ sym (append_assoc builtin (flat_map (λ b. b.prims) first) (flat_map (λ b. b.prims) more))
  where
    flat : (bs : List Batch) → flat_map (λ b. b.prims) (bs ++ more) ≡ flat_map (λ b. b.prims) bs ++ flat_map (λ b. b.prims) more
    flat [] = refl
    flat (b ∷ bs) = ap (λ l. b.prims ++ l) (flat bs) ∙ sym (append_assoc b.prims (flat_map (λ b. b.prims) bs) (flat_map (λ b. b.prims) more))

-- what has grown to within the limits was within them
pub within_before : (first batches : List Batch) → Grown first batches → AreWithin batches → AreWithin first
within_before first batches (more, is) within =
    let requests = ap length is ∙ length-append first more in
    let prims = ap length (ap prims_of is ∙ prims_append first more) ∙ length-append (prims_of first) (flat_map (λ b. b.prims) more) in
    record { requests = omega (arith, requests, within.requests); prims = omega (arith, prims, within.prims) }
