-- Pages that an output shows, which a history explains, are pages of the store of that history.
use Rattle.std.proofs.Common.{◌≡◌, inl, inr, ℕ, ◌≤◌, Bool, true, false, nat_lt, if◌then◌else◌, List, [], ◌∷◌, length, take, drop, map, Option, Some, None, Result, Ok, Err, refl, sym, ap, subst, arith, le-ltb, codes, length-take-le, ◌∙◌}
use Rattle.std.specs.Prelude.{slice_get}
use Rattle.std.proofs.lemmas.Bool.{ltb-false}
use Rattle.std.proofs.lemmas.List.{take-append-drop}
use Rattle.gd_prim.specs.declared.Primitive.{Primitive}
use Rattle.gd_prim.specs.declared.Batch.{Batch}
use Rattle.gd_prim.specs.History.{prims_of, prims_at}
use Rattle.gd_bytes.specs.Cursor.{Cursor, cursor_of}
use Rattle.gd_grammar.proofs.Steps.{not_ok, some_same}
use Rattle.gd_list_laws.proofs.Fronts.{take_whole}
use Rattle.gd_tree.specs.Json.{Json, boolean, text, list}
use Rattle.gd_defs.specs.Query.{Query}
use Rattle.gd_defs.specs.Write.{WriteRequest}
use Rattle.gd_defs.specs.Reply.{reply}
use Rattle.gd_defs.specs.Lines.{refusal, err_line, ok_cursor_line, bad_cursor, cursor_ahead, count_json}
use Rattle.gd_runs.specs.Request.{CursorAsk, cursor_ask, no_cursor, first_page, page_after, ReadSet, one_query, Line, read, write, page_reply, reply_of}
use Rattle.gd_runs.specs.Input.{InputFault, line_from}
use Rattle.gd_runs.specs.Legal.{History, batches, size}
use Rattle.gd_runs.specs.Explained.{Numbered, Run, Outcome, no_request, no_memory, stored, refused, late, in_doubt, not_tried, answered, Prints, IsExplainedBy}
use Rattle.gd_runs.proofs.Rounds.{length_batches}
use Rattle.gd_order_laws.specs.Window.{Each}
use Rattle.gd_paging_laws.specs.Told.{IsCursor}
use Rattle.gd_paging_laws.specs.Paged.{Page, IsPageOf, Follow, Grown, append, joined, AreAllRows}
use Rattle.gd_paging_laws.specs.Explained.{Shown, IsShown, AreShown, shown_items, AreAllShown}
use Rattle.gd_paging_laws.proofs.Told.{not_refused, not_plain}
use Rattle.gd_paging_laws.proofs.Lines.{reply_told, reply_prints}
use Rattle.gd_paging_laws.proofs.Going.{page_told, within_before}
use Rattle.gd_paging_laws.proofs.Within.{legal_within}
use Rattle.gd_paging_laws.proofs.Queries.{asks_spelled}
use Rattle.gd_paging_laws.proofs.Whole.{whole}

-- ---- a read that shows a page was answered

-- a read was answered over so many batches of the history
record Answers (h : History) (k : ℕ) (o : Outcome) (r : ReadSet) (line : List ℕ) : Type 0 where
  pub snapshot : ℕ
  pub is : o ≡ answered snapshot
  pub within : snapshot ≤ size h
  pub replies : line ≡ reply_of (batches h) snapshot k r

no_write : {P : Type 0} (bytes : List ℕ) (s t : ℕ) (r : ReadSet) (w : WriteRequest) → line_from bytes ≡ Ok (read s r) → line_from bytes ≡ Ok (write t w) → P
no_write bytes s t r w asks other = let same : ◌≡◌ {A = Result Line InputFault} (Ok (write t w)) (Ok (read s r)) = sym other ∙ asks in absurd (cc)

same_read : (bytes : List ℕ) (s t : ℕ) (r q : ReadSet) → line_from bytes ≡ Ok (read s r) → line_from bytes ≡ Ok (read t q) → q ≡ r
same_read bytes s t r q asks other = let same : ◌≡◌ {A = Result Line InputFault} (Ok (read t q)) (Ok (read s r)) = sym other ∙ asks in cc

was_answered : (h : History) (k : ℕ) (bytes : List ℕ) (o : Outcome) (line : List ℕ) (s : ℕ) (r : ReadSet) (d : ℕ) (c j : Json) → Prints h k bytes o line → line_from bytes ≡ Ok (read s r) → line ≡ ok_cursor_line d k c j → Answers h k o r line
was_answered h k bytes no_request line s r d c j (f, none, is) asks tells = not_ok f (read s r) (sym none ∙ asks)
was_answered h k bytes no_memory line s r d c j is asks tells = absurd (not_plain d k k (refusal (codes "Memory") []) c j (sym is ∙ tells))
was_answered h k bytes (stored e) line s r d c j (entry, t, of, other, is) asks tells = no_write bytes s t r entry.request asks other
was_answered h k bytes (refused n) line s r d c j (t, w, moment, f, other, within, fails, is) asks tells = no_write bytes s t r w asks other
was_answered h k bytes (late e) line s r d c j (entry, of, is) asks tells = absurd (not_plain d k k (refusal (codes "MemoryLate") ((codes "entry", count_json e) ∷ [])) c j (sym is ∙ tells))
was_answered h k bytes in_doubt line s r d c j ((t, w, other), is) asks tells = no_write bytes s t r w asks other
was_answered h k bytes not_tried line s r d c j ((t, w, other), is) asks tells = no_write bytes s t r w asks other
was_answered h k bytes (answered m) line s r d c j (t, q, other, within, is) asks tells =
    record { snapshot = m; is = refl; within = within; replies = is ∙ ap (reply_of (batches h) m k) (same_read bytes s t r q asks other) }

-- ---- as pages of a store

abbrev page_of : List Batch → Shown → Page
page_of bs s = record { batches = bs; line = s.line; cursor = s.cursor; items = s.items }

abbrev line_of_page : ℕ → Shown → List ℕ
line_of_page d s = ok_cursor_line d s.line s.cursor (list s.items)

front_long : (m : ℕ) (bs : List Batch) → m ≤ length bs → length (take m bs) ≡ m
front_long m bs within = length-take-le m bs within

front_prims : (m : ℕ) (bs : List Batch) → prims_at (take m bs) (length (take m bs)) ≡ prims_at bs m
front_prims m bs = ap prims_of (take_whole (length (take m bs)) (take m bs) (omega arith))

-- the first page is one of the store of its snapshot
first_of : (q : Query) (s : Shown) (bs : List Batch) (m d : ℕ) → m ≤ length bs → reply_of bs m s.line (one_query (record { cursor = first_page; query = q })) ≡ line_of_page d s → IsPageOf q (boolean true) (page_of (take m bs) s)
first_of q s bs m d within is = record { ask = first_page; asked = refl; tells = record { dateline = d; is = moved } }
  where
    moved : reply_of (take m bs) (length (take m bs)) s.line (one_query (record { cursor = first_page; query = q })) ≡ line_of_page d s
    moved = ap (λ (l : List Primitive). reply l (length (take m bs)) s.line true None q) (front_prims m bs) ∙ ap (λ (n : ℕ). reply (prims_at bs m) n s.line true None q) (front_long m bs within) ∙ is

-- a further one is one of the store of any later snapshot
later_of : (q : Query) (t : List ℕ) (s : Shown) (bs : List Batch) (m d : ℕ) → m ≤ length bs → reply_of bs m s.line (one_query (record { cursor = page_after t; query = q })) ≡ line_of_page d s → IsPageOf q (text t) (page_of bs s)
later_of q t s bs m d within is = record { ask = page_after t; asked = refl; tells = record { dateline = d; is = by (cursor_of t) is } }
  where
    at_mark : Cursor → List ℕ
    at_mark c = reply (prims_at bs c.dateline) c.dateline s.line true (Some c.after) q

    there : (c : Cursor) (b : Bool) → nat_lt m c.dateline ≡ b → (if b then err_line m s.line (cursor_ahead c.dateline m) else at_mark c) ≡ line_of_page d s
        → (if nat_lt (length bs) c.dateline then err_line (length bs) s.line (cursor_ahead c.dateline (length bs)) else at_mark c) ≡ line_of_page d s
    there c true ahead e = absurd (not_refused m d s.line s.line (cursor_ahead c.dateline m) s.cursor (list s.items) e)
    there c false ahead e =
        let below = ltb-false m c.dateline ahead in
        let none : nat_lt (length bs) c.dateline ≡ false = le-ltb (length bs) c.dateline (omega (arith, below, within)) in
        rw none e

    by : (r : Result Cursor ℕ) → page_reply bs m s.line q r ≡ line_of_page d s → page_reply bs (length bs) s.line q r ≡ line_of_page d s
    by (Err offset) e = absurd (not_refused m d s.line s.line (bad_cursor offset) s.cursor (list s.items) e)
    by (Ok c) e = there c (nat_lt m c.dateline) refl e

-- none was asked for with the cursor false
never_of : {P : Type 0} (q : Query) (s : Shown) (bs : List Batch) (m d : ℕ) → reply_of bs m s.line (one_query (record { cursor = no_cursor; query = q })) ≡ line_of_page d s → P
never_of q s bs m d is = let never : false ≡ true = (reply_told (prims_at bs m) q m s.line d false None s.cursor s.items is).paged in absurd (cc)

-- ---- of a history

abbrev asked_with : Json → Option CursorAsk
asked_with from = cursor_ask (Some from)

module _ (h : History) (runs : List Run) (each : (k : ℕ) (r : Run) → slice_get runs k ≡ Some r → Prints h k r.line.bytes r.outcome r.reply) (q : Query) where
  -- what the line of a page was answered with
  record Read (ask : CursorAsk) (s : Shown) (run : Run) (d : ℕ) : Type 0 where
    pub snapshot : ℕ
    pub is : run.outcome ≡ answered snapshot
    pub within : snapshot ≤ size h
    pub long : snapshot ≤ length (batches h)
    pub replies : reply_of (batches h) snapshot s.line (one_query (record { cursor = ask; query = q })) ≡ line_of_page d s

  was_read : (from : Json) (s : Shown) (is : IsShown runs q from s) → Read is.ask s is.run is.dateline
  was_read from s is =
      let given = was_answered h s.line is.run.line.bytes is.run.outcome is.run.reply is.session (one_query (record { cursor = is.ask; query = q })) is.dateline s.cursor (list s.items) (each s.line is.run is.there) is.reads is.tells in
      let count = length_batches h in
      record { snapshot = given.snapshot; is = given.is; within = given.within; long = omega (arith, given.within, count); replies = sym given.replies ∙ is.tells }

  -- the cursor that a page tells
  told_of : (from : Json) (s : Shown) → IsShown runs q from s → IsCursor s.cursor
  told_of from s is = let was = was_read from s is in page_told (batches h) was.snapshot s.line is.dateline is.ask q s.cursor s.items was.replies

  -- a further page
  page_shown : (from : Json) (s : Shown) → IsCursor from → IsShown runs q from s → IsPageOf q from (page_of (batches h) s)
  page_shown from s (inl ended) is =
      let was = was_read from s is in
      let ask : no_cursor ≡ is.ask = some_same no_cursor is.ask (ap asked_with (sym ended) ∙ is.asked) in
      never_of q s (batches h) was.snapshot is.dateline (ap (λ (a : CursorAsk). reply_of (batches h) was.snapshot s.line (one_query (record { cursor = a; query = q }))) ask ∙ was.replies)
  page_shown from s (inr (t, is_text, clear)) is =
      let was = was_read from s is in
      let ask : page_after t ≡ is.ask = some_same (page_after t) is.ask (ap asked_with (sym is_text) ∙ is.asked) in
      subst (λ (c : Json). IsPageOf q c (page_of (batches h) s)) (sym is_text)
      (later_of q t s (batches h) was.snapshot is.dateline was.long (ap (λ (a : CursorAsk). reply_of (batches h) was.snapshot s.line (one_query (record { cursor = a; query = q }))) ask ∙ was.replies))

  pages_shown : (from to : Json) (ss : List Shown) → IsCursor from → AreShown runs q from ss to → Follow q from (map (page_of (batches h)) ss) to
  pages_shown from to [] cursor is = is
  pages_shown from to (s ∷ ss) cursor (is, more) = (page_shown from s cursor is, pages_shown s.cursor to ss (told_of from s is) more)

-- each is of the store of the first, which has grown
all_grown : (m : ℕ) (bs : List Batch) (ss : List Shown) → Each (λ r. Grown (take m bs) r.batches) (map (page_of bs) ss)
all_grown m bs [] = tt
all_grown m bs (s ∷ ss) = ((drop m bs, sym (take-append-drop m bs)), all_grown m bs ss)

joined_shown : (bs : List Batch) (ss : List Shown) → joined (map (page_of bs) ss) ≡ shown_items ss
joined_shown bs [] = refl
joined_shown bs (s ∷ ss) = ap (append s.items) (joined_shown bs ss)

-- THE LAW: pages that an output shows, from the cursor true up to the cursor false, joined, are all rows
pub shown_whole : (loaded : List Batch) (may : ℕ → Bool) (given : List Numbered) (output : List ℕ) (h : History) (runs : List Run) (q : Query) (s : Shown) (ss : List Shown)
    → IsExplainedBy loaded may given output h runs → AreShown runs q (boolean true) (s ∷ ss) (boolean false) → AreAllShown h runs q s ss
shown_whole loaded may given output h runs q s ss explained (first, more) =
    let bs = batches h in
    let was = was_read h runs explained.each q (boolean true) s first in
    let ask : first_page ≡ first.ask = some_same first_page first.ask first.asked in
    let line : reply_of bs was.snapshot s.line (one_query (record { cursor = first_page; query = q })) ≡ line_of_page first.dateline s =
    ap (λ (a : CursorAsk). reply_of bs was.snapshot s.line (one_query (record { cursor = a; query = q }))) ask ∙ was.replies in
    let spelled = asks_spelled first.run.line.bytes first.session (record { cursor = first.ask; query = q }) first.reads in
    let front : Grown (take was.snapshot bs) bs = (drop was.snapshot bs, sym (take-append-drop was.snapshot bs)) in
    let all = whole spelled.0 q (page_of (take was.snapshot bs) s) (map (page_of bs) ss) spelled.1 (within_before (take was.snapshot bs) bs front (legal_within h explained.legal)) (all_grown was.snapshot bs ss)
    (first_of q s bs was.snapshot first.dateline was.long line, pages_shown h runs explained.each q s.cursor (boolean false) ss (told_of h runs explained.each q (boolean true) s first) more) in
    record {
      run = first.run;
      there = first.there;
      dateline = was.snapshot;
      within = was.within;
      answers = was.is;
      prints = first.tells ∙ reply_prints (prims_at bs was.snapshot) q was.snapshot s.line first.dateline true None s.cursor s.items line;
      all = subst (AreAllRows (prims_at bs was.snapshot) q) (ap (append s.items) (joined_shown bs ss)) (subst (λ (l : List Primitive). AreAllRows l q (joined (page_of (take was.snapshot bs) s ∷ map (page_of bs) ss))) (front_prims was.snapshot bs) all);
    }
