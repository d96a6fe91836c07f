-- What the reply line of a page tells, by the definitions.
use Rattle.std.proofs.Common.{◌≡◌, inl, inr, ℕ, pos, Bool, true, false, nat_lt, if◌then◌else◌, List, [], ◌∷◌, length, Option, Some, None, Result, Ok, Err, refl, sym, ap, subst, arith, ◌∙◌, ◌+◌, codes, decimal, append-nil}
use Rattle.std.specs.Option.{option_map_or}
use Rattle.gd_prim.specs.declared.Primitive.{Primitive}
use Rattle.gd_grammar.specs.Chain.{◌>>=◌}
use Rattle.gd_grammar.specs.Mark.{Mark, cursor_text}
use Rattle.gd_grammar.proofs.Steps.{steps, ok_same, not_ok}
use Rattle.gd_tree.specs.Json.{Json, boolean, text, list, object, Items, no_items, item, Members, no_members, member, compact}
use Rattle.gd_defs.specs.Query.{Query}
use Rattle.gd_defs.specs.Asked.{Asked, Unknown, asked_query}
use Rattle.gd_defs.specs.Rows.{Row}
use Rattle.gd_defs.specs.Lines.{err_line, ok_line, ok_cursor_line, count_json, refused_at, too_large, too_wide}
use Rattle.gd_defs.specs.Reply.{Path, each_row, as_list, first_item, object_json, is_ambiguous, rows_after, page, has_more, page_cursor, result_json, result_line, answer_line, page_answer, max_reply, max_candidate_weight, max_page_weight, has_heavy_candidate, is_heavy_page, meant_line, asked_line, reply, unknown_refusal}
use Rattle.gd_order_laws.specs.Pages.{next_mark}
use Rattle.gd_order_laws.proofs.Marks.{cursor_marks}
use Rattle.gd_paging_laws.proofs.Bytes.{head_same, clear_cursor}
use Rattle.gd_paging_laws.specs.Told.{IsCursor}
use Rattle.gd_paging_laws.proofs.Told.{number_first, line_told, dated_same, not_refused, not_without}

-- what a row of the root prints
abbrev pub row_json : List Primitive → Asked → Row → Result Json Path
row_json prims a r = object_json prims a.members 0 r.object >>= λ m. Ok (object m)

-- a cursor and items, as the page behind a mark has them
pub record IsTold (prims : List Primitive) (a : Asked) (dateline : ℕ) (mark : Option Mark) (c : Json) (js : Items) : Type 0 where
  pub unique : is_ambiguous a.single (length (rows_after prims a mark)) ≡ false
  pub listed : a.listed ≡ true
  pub uncounted : a.count ≡ false
  pub items : Items
  pub prints : each_row (row_json prims a) (page prims a mark) ≡ Ok items
  pub same : compact (list items) ≡ compact (list js)
  pub cursor : page_cursor dateline (page prims a mark) (has_more prims a mark) ≡ c

pub is_cursor : (dateline : ℕ) (rs : List Row) (more : Bool) → IsCursor (page_cursor dateline rs more)
is_cursor dateline rs more = subst IsCursor (sym (cursor_marks dateline rs more)) (by (next_mark rs more))
  where
    by : (o : Option Mark) → IsCursor (option_map_or (λ m. text (cursor_text dateline m)) o (boolean false))
    by None = inl refl
    by (Some m) = inr (cursor_text dateline m, refl, clear_cursor dateline m)

-- ---- what the root prints as a list

pub list_first : (js : Items) → (xs : List ℕ) × (compact (list js) ≡ 91 ∷ xs)
list_first no_items = (_, refl)
list_first (item j js) = (_, refl)

no_count : (n : ℕ) (j : Json) (js : Items) → ◌≡◌ {A = Result Json Path} (Ok (count_json n)) (Ok j) → compact j ≡ compact (list js) → ⊥
no_count n j js is same =
    let within = number_first (pos n) [] (list_first js).0 91 (append-nil (compact (count_json n)) ∙ ap compact (ok_same (count_json n) j is) ∙ same ∙ (list_first js).1) in
    omega (arith, within.1)

-- an object prints as none
object_no : (ms : Members) (js : Items) → compact (object ms) ≡ compact (list js) → ⊥
object_no no_members js same = let begins : 123 ≡ 91 = head_same (same ∙ (list_first js).1) in omega (arith, begins)
object_no (member k j ms) js same = let begins : 123 ≡ 91 = head_same (same ∙ (list_first js).1) in omega (arith, begins)

module _ (prims : List Primitive) (a : Asked) where
  -- the first row prints an object, or null where there is none
  no_single : (rs : List Row) (items : Items) (js : Items) → each_row (row_json prims a) rs ≡ Ok items → compact (first_item items) ≡ compact (list js) → ⊥
  no_single [] items js is same =
      let begins : 110 ≡ 91 = head_same (ap (λ k. compact (first_item k)) (ok_same no_items items is) ∙ same ∙ (list_first js).1) in omega (arith, begins)
  no_single (r ∷ rs) items js is same =
      let one = steps (row_json prims a r) (λ j. each_row (row_json prims a) rs >>= λ js. Ok (item j js)) items is in
      let more = steps (each_row (row_json prims a) rs) (λ js. Ok (item one.value js)) items one.then_gave in
      let made = steps (object_json prims a.members 0 r.object) (λ m. Ok (object m)) one.value one.gave in
      object_no made.value js
      (ap compact (ok_same (object made.value) one.value made.then_gave) ∙ ap (λ k. compact (first_item k)) (ok_same (item one.value more.value) items more.then_gave) ∙ same)

  -- a result that prints as a list is the list of the rows of the page
  result_told : (dateline : ℕ) (mark : Option Mark) (j c : Json) (js : Items) → result_json prims a (rows_after prims a mark) (page prims a mark) ≡ Ok j → compact j ≡ compact (list js)
      → page_cursor dateline (page prims a mark) (has_more prims a mark) ≡ c → IsTold prims a dateline mark c js
  result_told dateline mark j c js is same cursor = by (is_ambiguous a.single (length (rows_after prims a mark))) a.count a.listed refl refl refl is
    where
      by : (many count listed : Bool) → is_ambiguous a.single (length (rows_after prims a mark)) ≡ many → a.count ≡ count → a.listed ≡ listed
          → (if many then Err [] else if count then Ok (count_json (length (page prims a mark))) else as_list listed (each_row (row_json prims a) (page prims a mark))) ≡ Ok j
          → IsTold prims a dateline mark c js
      by true count listed one two three is = not_ok [] j is
      by false true listed one two three is = absurd (no_count (length (page prims a mark)) j js is same)
      by false false false one two three is =
          let made = steps (each_row (row_json prims a) (page prims a mark)) (λ items. Ok (first_item items)) j is in
          absurd (no_single (page prims a mark) made.value js made.gave (ap compact (ok_same (first_item made.value) j made.then_gave) ∙ same))
      by false false true one two three is =
          let made = steps (each_row (row_json prims a) (page prims a mark)) (λ items. Ok (list items)) j is in
          record {
            unique = one;
            listed = three;
            uncounted = two;
            items = made.value;
            prints = made.gave;
            same = ap compact (ok_same (list made.value) j made.then_gave) ∙ same;
            cursor = cursor;
          }

  -- ---- the line

  -- the cursor of the page behind a mark
  abbrev cursor_at : ℕ → Option Mark → Json
  cursor_at dateline mark = page_cursor dateline (page prims a mark) (has_more prims a mark)

  -- a line with a cursor was asked for with one, prints its dateline, and is of a page
  abbrev Line : ℕ → ℕ → Bool → Option Mark → Json → Items → Type 0
  Line dateline d with_cursor mark c js = (with_cursor ≡ true) × (decimal d ≡ decimal dateline) × IsTold prims a dateline mark c js

  answer_told : (dateline line d : ℕ) (with_cursor : Bool) (mark : Option Mark) (c : Json) (js : Items) (r : Result Json Path) → result_json prims a (rows_after prims a mark) (page prims a mark) ≡ r
      → result_line dateline line (if with_cursor then Some (cursor_at dateline mark) else None) r ≡ ok_cursor_line d line c (list js) → Line dateline d with_cursor mark c js
  answer_told dateline line d with_cursor mark c js (Err path) is e = absurd (not_refused dateline d line line (refused_at (codes "NotUnique") path) c (list js) e)
  answer_told dateline line d false mark c js (Ok j) is e = by (nat_lt max_reply (length (ok_line dateline line j))) e
    where
      by : (b : Bool) → (if b then err_line dateline line (too_large (length (ok_line dateline line j))) else ok_line dateline line j) ≡ ok_cursor_line d line c (list js) → Line dateline d false mark c js
      by true e = absurd (not_refused dateline d line line (too_large (length (ok_line dateline line j))) c (list js) e)
      by false e = absurd (not_without dateline d line line j c (list js) e)
  answer_told dateline line d true mark c js (Ok j) is e = by (nat_lt max_reply (length (ok_cursor_line dateline line (cursor_at dateline mark) j))) e
    where
      by : (b : Bool) → (if b then err_line dateline line (too_large (length (ok_cursor_line dateline line (cursor_at dateline mark) j))) else ok_cursor_line dateline line (cursor_at dateline mark) j) ≡ ok_cursor_line d line c (list js)
          → Line dateline d true mark c js
      by true e = absurd (not_refused dateline d line line (too_large (length (ok_cursor_line dateline line (cursor_at dateline mark) j))) c (list js) e)
      by false e =
          let told = line_told dateline d line (cursor_at dateline mark) c j (list js) (is_cursor dateline (page prims a mark) (has_more prims a mark)) e in
          (refl, told.2, result_told dateline mark j c js is told.1 told.0)

  asked_told : (dateline line d : ℕ) (with_cursor : Bool) (mark : Option Mark) (c : Json) (js : Items) → asked_line prims dateline line with_cursor mark a ≡ ok_cursor_line d line c (list js) → Line dateline d with_cursor mark c js
  asked_told dateline line d with_cursor mark c js e = by (has_heavy_candidate prims a) (is_heavy_page prims a mark) e
    where
      by : (heavy wide : Bool) → answer_line dateline line (if heavy then Err (too_wide (max_candidate_weight + 1)) else if wide then Err (too_wide (max_page_weight + 1))
          else page_answer (if with_cursor then Some (cursor_at dateline mark) else None) (result_json prims a (rows_after prims a mark) (page prims a mark))) ≡ ok_cursor_line d line c (list js)
          → Line dateline d with_cursor mark c js
      by true wide e = absurd (not_refused dateline d line line (too_wide (max_candidate_weight + 1)) c (list js) e)
      by false true e = absurd (not_refused dateline d line line (too_wide (max_page_weight + 1)) c (list js) e)
      by false false e = answer_told dateline line d with_cursor mark c js (result_json prims a (rows_after prims a mark) (page prims a mark)) refl e

-- what the reply line of a query tells, if it is one with a cursor: it was asked for with a cursor, the query has a meaning, and the line tells the page behind the mark
pub record IsLine (prims : List Primitive) (q : Query) (dateline : ℕ) (with_cursor : Bool) (mark : Option Mark) (c : Json) (js : Items) : Type 0 where
  pub asked : Asked
  pub means : asked_query prims q ≡ Ok asked
  pub paged : with_cursor ≡ true
  pub told : IsTold prims asked dateline mark c js

-- and its dateline prints as the one that was asked for
record IsDated (prims : List Primitive) (q : Query) (dateline d : ℕ) (with_cursor : Bool) (mark : Option Mark) (c : Json) (js : Items) : Type 0 where
  pub line : IsLine prims q dateline with_cursor mark c js
  pub dated : decimal d ≡ decimal dateline

reply_dated : (prims : List Primitive) (q : Query) (dateline line d : ℕ) (with_cursor : Bool) (mark : Option Mark) (c : Json) (js : Items)
    → reply prims dateline line with_cursor mark q ≡ ok_cursor_line d line c (list js) → IsDated prims q dateline d with_cursor mark c js
reply_dated prims q dateline line d with_cursor mark c js e = by (asked_query prims q) refl e
  where
    by : (r : Result Asked Unknown) → asked_query prims q ≡ r → meant_line prims dateline line with_cursor mark r ≡ ok_cursor_line d line c (list js) → IsDated prims q dateline d with_cursor mark c js
    by (Err u) is e = absurd (not_refused dateline d line line (unknown_refusal u) c (list js) e)
    by (Ok a) is e = let all = asked_told prims a dateline line d with_cursor mark c js e in record { line = record { asked = a; means = is; paged = all.0; told = all.2 }; dated = all.1 }

pub reply_told : (prims : List Primitive) (q : Query) (dateline line d : ℕ) (with_cursor : Bool) (mark : Option Mark) (c : Json) (js : Items)
    → reply prims dateline line with_cursor mark q ≡ ok_cursor_line d line c (list js) → IsLine prims q dateline with_cursor mark c js
reply_told prims q dateline line d with_cursor mark c js e = (reply_dated prims q dateline line d with_cursor mark c js e).line

-- the line is that of this dateline
pub reply_prints : (prims : List Primitive) (q : Query) (dateline line d : ℕ) (with_cursor : Bool) (mark : Option Mark) (c : Json) (js : Items)
    → reply prims dateline line with_cursor mark q ≡ ok_cursor_line d line c (list js) → ok_cursor_line d line c (list js) ≡ ok_cursor_line dateline line c (list js)
reply_prints prims q dateline line d with_cursor mark c js e = dated_same dateline d line c (list js) (reply_dated prims q dateline line d with_cursor mark c js e).dated

-- its cursor is one of a page
pub line_cursor : (prims : List Primitive) (q : Query) (dateline line d : ℕ) (with_cursor : Bool) (mark : Option Mark) (c : Json) (js : Items) → reply prims dateline line with_cursor mark q ≡ ok_cursor_line d line c (list js) → IsCursor c
line_cursor prims q dateline line d with_cursor mark c js e =
    let is = reply_told prims q dateline line d with_cursor mark c js e in
    subst IsCursor is.told.cursor (is_cursor dateline (page prims is.asked mark) (has_more prims is.asked mark))
