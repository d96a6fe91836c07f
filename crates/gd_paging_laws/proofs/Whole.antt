-- Pages that were read one after another, joined, are all rows of the query.
use Rattle.std.proofs.Common.{◌≡◌, ℕ, ◌<◌, ◌≤◌, Bool, true, false, nat_lt, if◌then◌else◌, List, [], ◌∷◌, ◌++◌, length, take, drop, Option, Some, None, Result, Ok, refl, sym, ap, subst, arith, append_assoc, append-nil, ◌∙◌}
use Rattle.std.specs.List.{last_or}
use Rattle.std.proofs.lemmas.Bool.{ltb-true, ltb-false}
use Rattle.std.proofs.lemmas.List.{take-append-drop}
use Rattle.std.proofs.Math.Seq.{take-append_seam}
use Rattle.gd_prim.specs.declared.Primitive.{Primitive}
use Rattle.gd_prim.specs.declared.Batch.{Batch}
use Rattle.gd_prim.specs.History.{prims_of, prims_at}
use Rattle.gd_prim.specs.Limits.{max_prims}
use Rattle.gd_grammar.specs.Mark.{Mark, cursor_text}
use Rattle.gd_grammar.proofs.Steps.{some_same}
use Rattle.gd_list_laws.proofs.Fronts.{take_whole, last_is, taken_last}
use Rattle.gd_bytes.specs.Cursor.{cursor_of}
use Rattle.gd_tree.specs.Json.{Json, boolean, text, list, Items}
use Rattle.gd_defs.specs.Query.{Query, query_of}
use Rattle.gd_defs.specs.Asked.{Asked, Unknown, asked_query}
use Rattle.gd_defs.specs.Rows.{Row, rows}
use Rattle.gd_defs.specs.Lines.{err_line, cursor_ahead, ok_cursor_line}
use Rattle.gd_defs.specs.Reply.{each_row, row_mark, rows_after, page, has_more, page_cursor, reply}
use Rattle.gd_runs.specs.Request.{CursorAsk, no_cursor, first_page, page_after, page_reply, query_reply}
use Rattle.gd_order_laws.specs.Window.{Each, In}
use Rattle.gd_order_laws.proofs.Sorted.{In-middle}
use Rattle.gd_order_laws.proofs.Pages.{after_row}
use Rattle.gd_order_laws.proofs.Laws.{rows_stand_once}
use Rattle.gd_paging_laws.specs.Paged.{Page, IsPageOf, Follow, Grown, OfOneStore, AreWithin, append, joined, AreWhole}
use Rattle.gd_paging_laws.proofs.Told.{not_refused}
use Rattle.gd_paging_laws.proofs.Lines.{row_json, IsTold, IsLine, reply_told}
use Rattle.gd_paging_laws.proofs.Marks.{cursor_read}
use Rattle.gd_paging_laws.proofs.Joined.{inner, inner_same, list_same, append_same, append_none, rows_append}
use Rattle.gd_paging_laws.proofs.Bounds.{read_bounded}

-- ---- cursors that are asked with

-- no page is asked for with the cursor false
none_after_false : (q : Query) (p : Page) → IsPageOf q (boolean false) p → ⊥
none_after_false q p is =
    let ask : no_cursor ≡ is.ask = some_same no_cursor is.ask is.asked in
    let line : query_reply p.batches (length p.batches) p.line (record { cursor = no_cursor; query = q }) ≡ ok_cursor_line is.tells.dateline p.line p.cursor (list p.items) =
    ap (λ (c : CursorAsk). query_reply p.batches (length p.batches) p.line (record { cursor = c; query = q })) ask ∙ is.tells.is in
    let told = reply_told (prims_at p.batches (length p.batches)) q (length p.batches) p.line is.tells.dateline false None p.cursor p.items line in
    let never : false ≡ true = told.paged in
    absurd (cc)

-- with the cursor true the first page is
first_told : (q : Query) (p : Page) → IsPageOf q (boolean true) p → IsLine (prims_at p.batches (length p.batches)) q (length p.batches) true None p.cursor p.items
first_told q p is =
    let ask : first_page ≡ is.ask = some_same first_page is.ask is.asked in
    reply_told (prims_at p.batches (length p.batches)) q (length p.batches) p.line is.tells.dateline true None p.cursor p.items
    (ap (λ (c : CursorAsk). query_reply p.batches (length p.batches) p.line (record { cursor = c; query = q })) ask ∙ is.tells.is)

-- the primitives at the end of a store stand below its later ends
grown_prims : (first batches : List Batch) → Grown first batches → prims_at batches (length first) ≡ prims_of first
grown_prims first batches (more, is) = ap (λ bs. prims_of (take (length first) bs)) is ∙ ap prims_of (take-append_seam first more)

own_prims : (first : List Batch) → prims_at first (length first) ≡ prims_of first
own_prims first = grown_prims first first ([], sym (append-nil first))

-- with the text of a cursor the page behind its mark is, at its dateline
later_told : (first : List Batch) (q : Query) (t : List ℕ) (m : Mark) (p : Page) → cursor_of t ≡ Ok (record { dateline = length first; after = m }) → Grown first p.batches → IsPageOf q (text t) p
    → IsLine (prims_at first (length first)) q (length first) true (Some m) p.cursor p.items
later_told first q t m p read grown is = by (nat_lt (length p.batches) (length first)) line
  where
    ask : page_after t ≡ is.ask
    ask = some_same (page_after t) is.ask is.asked

    told_line : List ℕ
    told_line = ok_cursor_line is.tells.dateline p.line p.cursor (list p.items)

    line : page_reply p.batches (length p.batches) p.line q (Ok (record { dateline = length first; after = m })) ≡ told_line
    line = ap (page_reply p.batches (length p.batches) p.line q) (sym read)
        ∙ ap (λ (c : CursorAsk). query_reply p.batches (length p.batches) p.line (record { cursor = c; query = q })) ask ∙ is.tells.is

    by : (b : Bool) → (if b then err_line (length p.batches) p.line (cursor_ahead (length first) (length p.batches)) else reply (prims_at p.batches (length first)) (length first) p.line true (Some m) q) ≡ told_line
        → IsLine (prims_at first (length first)) q (length first) true (Some m) p.cursor p.items
    by true e = absurd (not_refused (length p.batches) is.tells.dateline p.line p.line (cursor_ahead (length first) (length p.batches)) p.cursor (list p.items) e)
    by false e =
        let moved : prims_at first (length first) ≡ prims_at p.batches (length first) = own_prims first ∙ sym (grown_prims first p.batches grown) in
        reply_told (prims_at first (length first)) q (length first) p.line is.tells.dateline true (Some m) p.cursor p.items
        (ap (λ (l : List Primitive). reply l (length first) p.line true (Some m) q) moved ∙ e)

-- ---- page by page

module _ (first : List Batch) (q : Query) (a : Asked) where
  abbrev prims : List Primitive
  prims = prims_at first (length first)

  abbrev Told : Option Mark → Page → Type 0
  Told mark p = IsTold prims a (length first) mark p.cursor p.items

  -- these rows print what these items print
  record Prints (rest : List Row) (js : Items) : Type 0 where
    pub all : Items
    pub is : each_row (row_json prims a) rest ≡ Ok all
    pub same : inner all ≡ inner js

  -- the line of a page, of what the query means
  told_of : asked_query prims q ≡ Ok a → (mark : Option Mark) (p : Page) → IsLine prims q (length first) true mark p.cursor p.items → Told mark p
  told_of means mark p is = subst (λ (b : Asked). IsTold prims b (length first) mark p.cursor p.items) (same is.asked a (sym is.means ∙ means)) is.told
    where
      same : (b c : Asked) → ◌≡◌ {A = Result Asked Unknown} (Ok b) (Ok c) → b ≡ c
      same b c e = cc

  -- the page of the rows that are left, where none follows
  last_page : (p : Page) (mark : Option Mark) (rest : List Row) → rows_after prims a mark ≡ rest → nat_lt a.limit (length rest) ≡ false → Told mark p → (p.cursor ≡ boolean false) × Prints rest p.items
  last_page p mark rest from none told =
      let more : has_more prims a mark ≡ false = ap (λ l. nat_lt a.limit (length l)) from ∙ none in
      let all : page prims a mark ≡ rest = ap (take a.limit) from ∙ take_whole a.limit rest (ltb-false a.limit (length rest) none) in (
        sym told.cursor ∙ ap (page_cursor (length first) (page prims a mark)) more,
        record { all = told.items; is = ap (each_row (row_json prims a)) (sym all) ∙ told.prints; same = inner_same told.items p.items told.same },
      )

  -- a page behind which rows follow: its cursor is at its last row, and behind that the rest is left
  record Followed (p : Page) (done rest : List Row) : Type 0 where
    pub front : List Row
    pub last : Row
    pub cursor : p.cursor ≡ text (cursor_text (length first) (row_mark last))
    pub all : rows prims a ≡ (done ++ front) ++ last ∷ drop a.limit rest
    pub prints : (js : Items) → Prints (drop a.limit rest) js → Prints rest (append p.items js)

  more_pages : (p : Page) (mark : Option Mark) (done rest : List Row) → 0 < a.limit → rows prims a ≡ done ++ rest → rows_after prims a mark ≡ rest → nat_lt a.limit (length rest) ≡ true → Told mark p → Followed p done rest
  more_pages p mark done rest some all from follow told =
      let last = taken_last a.limit rest some (ltb-true a.limit (length rest) follow) in
      let more : has_more prims a mark ≡ true = ap (λ l. nat_lt a.limit (length l)) from ∙ follow in
      let here : page prims a mark ≡ last.0 ++ last.1 ∷ [] = ap (take a.limit) from ∙ last.2 in
      let split : rest ≡ last.0 ++ last.1 ∷ drop a.limit rest = sym (take-append-drop a.limit rest) ∙ ap (λ l. l ++ drop a.limit rest) last.2 ∙ append_assoc last.0 (last.1 ∷ []) (drop a.limit rest) in
      let marked : page_cursor (length first) (last.0 ++ last.1 ∷ []) true ≡ text (cursor_text (length first) (row_mark last.1)) = cursor_at (last.0 ++ last.1 ∷ []) last.1 (last_is None last.0 last.1) in
      record {
        front = last.0;
        last = last.1;
        cursor = sym told.cursor ∙ ap (page_cursor (length first) (page prims a mark)) more ∙ ap (λ rs. page_cursor (length first) rs true) here ∙ marked;
        all = all ∙ ap (λ l. done ++ l) split ∙ sym (append_assoc done last.0 (last.1 ∷ drop a.limit rest));
        prints = λ js later. record {
          all = append told.items later.all;
          is = ap (each_row (row_json prims a)) (sym (take-append-drop a.limit rest))
              ∙ rows_append (row_json prims a) (take a.limit rest) (drop a.limit rest) told.items later.all (ap (λ l. each_row (row_json prims a) (take a.limit l)) (sym from) ∙ told.prints) later.is;
          same = append_same told.items later.all p.items js (inner_same told.items p.items told.same) later.same;
        };
      }
    where
      cursor_at : (rs : List Row) (r : Row) → last_or None rs ≡ Some r → page_cursor (length first) rs true ≡ text (cursor_text (length first) (row_mark r))
      cursor_at rs r is = rw is refl

  -- what the pages from one of them on print
  pages_from : asked_query prims q ≡ Ok a → 0 < a.limit → length a.sort ≤ 4 → AreWithin first → (ps : List Page) (p : Page) (mark : Option Mark) (done rest : List Row) → rows prims a ≡ done ++ rest → rows_after prims a mark ≡ rest
      → Told mark p → Each (λ r. Grown first r.batches) ps → Follow q p.cursor ps (boolean false) → Prints rest (joined (p ∷ ps))
  pages_from means some four within [] p mark done rest all from told grown ends = by (nat_lt a.limit (length rest)) refl
    where
      by : (b : Bool) → nat_lt a.limit (length rest) ≡ b → Prints rest (joined (p ∷ []))
      by true follow = let next = more_pages p mark done rest some all from follow told in let never : text (cursor_text (length first) (row_mark next.last)) ≡ boolean false = sym next.cursor ∙ ends in absurd (cc)
      by false none = subst (Prints rest) (sym (append_none p.items)) (last_page p mark rest from none told).1
  pages_from means some four within (n ∷ ps) p mark done rest all from told grown (asked, follows) =
      by (nat_lt a.limit (length rest)) refl (λ (m : Option Mark) done rest all from told. pages_from means some four within ps n m done rest all from told grown.1 follows)
    where
      by : (b : Bool) → nat_lt a.limit (length rest) ≡ b
          → ((m : Option Mark) (done rest : List Row) → rows prims a ≡ done ++ rest → rows_after prims a m ≡ rest → Told m n → Prints rest (joined (n ∷ ps)))
          → Prints rest (joined (p ∷ n ∷ ps))
      by false none later = absurd (none_after_false q n (subst (λ c. IsPageOf q c n) (last_page p mark rest from none told).0 asked))
      by true follow later =
          let next = more_pages p mark done rest some all from follow told in
          let m = row_mark next.last in
          let few : length prims ≤ max_prims = let same = ap length (own_prims first) in omega (arith, same, within.prims) in
          let here : In next.last (rows prims a) = subst (In next.last) (sym next.all) (In-middle (done ++ next.front) next.last (drop a.limit rest)) in
          let read : cursor_of (cursor_text (length first) m) ≡ Ok (record { dateline = length first; after = m }) = cursor_read prims a (length first) next.last few within.requests four here in
          let line = later_told first q (cursor_text (length first) m) m n read grown.0 (subst (λ c. IsPageOf q c n) next.cursor asked) in
          next.prints (joined (n ∷ ps))
          (later (Some m) ((done ++ next.front) ++ next.last ∷ []) (drop a.limit rest) (next.all ∙ sym (append_assoc (done ++ next.front) (next.last ∷ []) (drop a.limit rest)))
          (after_row prims a (done ++ next.front) next.last (drop a.limit rest) next.all) (told_of means (Some m) n line))

-- THE LAW: pages from the cursor true up to the cursor false, joined, are all rows
pub whole : (j : Json) (q : Query) (p : Page) (ps : List Page) → query_of j ≡ Ok q → AreWithin p.batches → OfOneStore (p ∷ ps) → Follow q (boolean true) (p ∷ ps) (boolean false) → AreWhole q (p ∷ ps)
whole j q p ps spelled within grown (asked, follows) =
    let line = first_told q p asked in
    let here = prims_at p.batches (length p.batches) in
    let bounds = read_bounded here j q line.asked spelled line.means in
    let told = pages_from p.batches q line.asked line.means bounds.1 bounds.0 within ps p None [] (rows here line.asked) refl refl line.told grown follows in
    record {
      asked = line.asked;
      means = line.means;
      all = told.all;
      prints = rw (line.told.unique, line.told.uncounted, line.told.listed, told.is) refl;
      same = list_same (joined (p ∷ ps)) told.all (sym told.same);
      once = rows_stand_once here line.asked;
    }
