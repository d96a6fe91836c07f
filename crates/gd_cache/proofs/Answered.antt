-- The reply of an answer, and what is kept of it.
use Rattle.std.proofs.Common.{◌≡◌, ◌∙◌, sym, ap, subst, refl, ℕ, ◌+◌, ◌≤◌, List, [], ◌∷◌, ◌++◌, Bool, true, false, length, take, map, flat_map, nat_lt, if◌then◌else◌, Option, Some, None, Result, Ok, Err, arith, codes, decimal, length-append}
use Rattle.std.specs.Prelude.{nat_le}
use Rattle.std.specs.List.{AllByRecursion}
use Rattle.std.specs.Option.{option_map_or}
use Rattle.std.proofs.lemmas.Bool.{leb-true, le-leb, ltb-false, ltb-true}
use Rattle.std.specs.Coded.{coded_ℕ, coded_list}
use Rattle.std.proofs.Math.Logic.{∥∥₁_elim}
use Rattle.std.proofs.lemmas.List.{take-append-le}
use base.Stored.{Coded-set}
use mathlib.Core.List.{IsPrefix}
use Rattle.gd_prim.specs.declared.Batch.{Batch}
use Rattle.gd_prim.specs.declared.Primitive.{Primitive}
use Rattle.gd_prim.specs.History.{prims_of, prims_at}
use Rattle.gd_bytes.specs.Cursor.{Cursor, cursor_of}
use Rattle.gd_grammar.specs.Mark.{Mark, place_text, cursor_text}
use Rattle.gd_grammar.proofs.Steps.{some_same, either}
use Rattle.gd_tree.specs.Json.{Json, boolean, text, list, compact, escaped}
use Rattle.gd_defs.specs.Query.{Query}
use Rattle.gd_defs.specs.Asked.{Asked, Unknown, asked_query}
use Rattle.gd_defs.specs.Rows.{Row}
use Rattle.gd_defs.specs.Lines.{Refusal, bad_cursor, cursor_ahead, items_of, err_line, ok_line, ok_cursor_line, too_wide, too_large}
use Rattle.gd_defs.specs.Reply.{Path, Answer, answer, answer_item, answer_line, asked_answer, meant_answer, page_answer, page_cursor, rows_after, page, has_more, result_json, has_heavy_candidate, is_heavy_page, max_candidate_weight, max_page_weight, max_reply, reply, within_reply}
use Rattle.gd_runs.specs.Request.{CursorAsk, no_cursor, first_page, page_after, asks_page, ReadSet, one_query, queries, page_reply, query_reply, reply_of}
use Rattle.gd_order_laws.specs.Pages.{next_mark}
use Rattle.gd_order_laws.proofs.Marks.{cursor_marks}
use Rattle.gd_paging_laws.proofs.Bytes.{clear_same, clear_cursor}
use Rattle.gd_cache.specs.declared.key.ReplyKey.{ReplyKey}
use Rattle.gd_cache.specs.declared.key.Kept.{Kept}
use Rattle.gd_cache.specs.Asked.{of_cursor, ask_at, dateline_at}
use Rattle.gd_cache.specs.Line.{kept_text}
use Rattle.gd_cache.specs.Right.{IsKeptRight, is_ok, Commaless, IsPlainKept}
use Rattle.gd_cache.specs.Laws.{KeptLater, AnswersAreKept}
use Rattle.gd_cache.proofs.Commas.{decimal_plain, plain_append}
use Rattle.gd_cache.proofs.Keys.{keys_tell}
use Rattle.gd_cache.proofs.Lines.{plain, with_cursor}

-- ---- what a read comes to at its dateline, whichever line asks

-- of the page behind a cursor
abbrev behind : List Primitive → ℕ → Query → Result Cursor ℕ → Answer
behind prims d q (Ok c) = answer prims d true (Some c.after) q
behind prims d q (Err offset) = Err (bad_cursor offset)

abbrev page_of : List Primitive → ℕ → CursorAsk → Query → Answer
page_of prims d no_cursor q = answer prims d false None q
page_of prims d first_page q = answer prims d true None q
page_of prims d (page_after t) q = behind prims d q (cursor_of t)

abbrev read_answer : List Primitive → ℕ → ReadSet → Answer
read_answer prims d (one_query r) = page_of prims d r.cursor r.query
read_answer prims d (queries rs) = Ok (None, list (items_of (map (λ r. answer_item (answer prims d (asks_page r.cursor) None r.query)) rs)))

not_there : {P : Type 0} (d : ℕ) → None ≡ Some d → P
not_there d is = absurd (cc)

-- ---- datelines

cursor_low : (n d : ℕ) (r : Result Cursor ℕ) → of_cursor n r ≡ Some d → d ≤ n
cursor_low n d (Ok c) is = either (nat_le c.dateline n) (Some c.dateline) None (Some d)
    (λ low same. let here = leb-true c.dateline n low in let one = some_same c.dateline d same in omega (arith, here, one)) (λ high none. not_there d none) is
cursor_low n d (Err offset) is = not_there d is

ask_low : (n d : ℕ) (c : CursorAsk) → ask_at n c ≡ Some d → d ≤ n
ask_low n d no_cursor is = let same = some_same n d is in omega (arith, same)
ask_low n d first_page is = let same = some_same n d is in omega (arith, same)
ask_low n d (page_after t) is = cursor_low n d (cursor_of t) is

-- a read has no dateline that is ahead
pub dateline_low : (n d : ℕ) (q : ReadSet) → dateline_at n q ≡ Some d → d ≤ n
dateline_low n d (one_query r) is = ask_low n d r.cursor is
dateline_low n d (queries rs) is = let same = some_same n d is in omega (arith, same)

cursor_again : (n d : ℕ) (r : Result Cursor ℕ) → of_cursor n r ≡ Some d → of_cursor d r ≡ Some d
cursor_again n d (Ok c) is = either (nat_le c.dateline n) (Some c.dateline) None (Some d)
    (λ low same. let one = some_same c.dateline d same in rw (le-leb c.dateline d (omega (arith, one))) same) (λ high none. not_there d none) is
cursor_again n d (Err offset) is = not_there d is

ask_again : (n d : ℕ) (c : CursorAsk) → ask_at n c ≡ Some d → ask_at d c ≡ Some d
ask_again n d no_cursor is = refl
ask_again n d first_page is = refl
ask_again n d (page_after t) is = cursor_again n d (cursor_of t) is

-- at its dateline it has that one
pub dateline_again : (n d : ℕ) (q : ReadSet) → dateline_at n q ≡ Some d → dateline_at d q ≡ Some d
dateline_again n d (one_query r) is = ask_again n d r.cursor is
dateline_again n d (queries rs) is = refl

-- ---- replies

ltb-false_of : (a b : ℕ) → b ≤ a → nat_lt a b ≡ false
ltb-false_of a b low = by (nat_lt a b) refl
  where
    by : (c : Bool) → nat_lt a b ≡ c → c ≡ false
    by true is = let high = ltb-true a b is in absurd (omega (arith, high, low))
    by false is = refl

module _ (batches : List Batch) (n d k : ℕ) where
  behind_line : (q : Query) (r : Result Cursor ℕ) → of_cursor n r ≡ Some d → page_reply batches n k q r ≡ answer_line d k (behind (prims_at batches d) d q r)
  behind_line q (Err offset) is = not_there d is
  behind_line q (Ok c) is = either (nat_le c.dateline n) (Some c.dateline) None (Some d)
      (λ low same. rw (ltb-false_of n c.dateline (leb-true c.dateline n low))
      (subst (λ m. reply (prims_at batches c.dateline) c.dateline k true (Some c.after) q ≡ answer_line m k (answer (prims_at batches m) m true (Some c.after) q)) (some_same c.dateline d same) refl))
      (λ high none. not_there d none) is

  page_line : (c : CursorAsk) (q : Query) → ask_at n c ≡ Some d → query_reply batches n k (record { cursor = c; query = q }) ≡ answer_line d k (page_of (prims_at batches d) d c q)
  page_line no_cursor q is = subst (λ m. reply (prims_at batches n) n k false None q ≡ answer_line m k (answer (prims_at batches m) m false None q)) (some_same n d is) refl
  page_line first_page q is = subst (λ m. reply (prims_at batches n) n k true None q ≡ answer_line m k (answer (prims_at batches m) m true None q)) (some_same n d is) refl
  page_line (page_after t) q is = behind_line q (cursor_of t) is

  -- a read that has a dateline is answered there
  reply_line : (q : ReadSet) → dateline_at n q ≡ Some d → reply_of batches n k q ≡ answer_line d k (read_answer (prims_at batches d) d q)
  reply_line (one_query r) is = page_line r.cursor r.query is
  reply_line (queries rs) is = subst (λ m. reply_of batches n k (queries rs) ≡ answer_line m k (read_answer (prims_at batches m) m (queries rs))) (some_same n d is) refl

-- a refusal is no answer
refused_not : {P : Type 0} (n k : ℕ) (r : Refusal) → is_ok (err_line n k r) ≡ true → P
refused_not n k r is = absurd (cc)

-- where the reply is an answer the read has a dateline
record Has (n : ℕ) (q : ReadSet) : Type 0 where
  dateline : ℕ
  is : dateline_at n q ≡ Some dateline

module _ (batches : List Batch) (n k : ℕ) where
  cursor_has : (q : Query) (r : Result Cursor ℕ) → is_ok (page_reply batches n k q r) ≡ true → (d : ℕ) × (of_cursor n r ≡ Some d)
  cursor_has q (Err offset) ok = refused_not n k (bad_cursor offset) ok
  cursor_has q (Ok c) ok = by (nat_lt n c.dateline) refl ok
    where
      by : (b : Bool) → nat_lt n c.dateline ≡ b → is_ok (if b then err_line n k (cursor_ahead c.dateline n) else reply (prims_at batches c.dateline) c.dateline k true (Some c.after) q) ≡ true → (d : ℕ) × (of_cursor n (Ok c) ≡ Some d)
      by true is ok = refused_not n k (cursor_ahead c.dateline n) ok
      by false is ok = (c.dateline, rw (le-leb c.dateline n (ltb-false n c.dateline is)) refl)

  ask_has : (c : CursorAsk) (q : Query) → is_ok (query_reply batches n k (record { cursor = c; query = q })) ≡ true → (d : ℕ) × (ask_at n c ≡ Some d)
  ask_has no_cursor q ok = (n, refl)
  ask_has first_page q ok = (n, refl)
  ask_has (page_after t) q ok = cursor_has q (cursor_of t) ok

  has_dateline : (q : ReadSet) → is_ok (reply_of batches n k q) ≡ true → Has n q
  has_dateline (one_query r) ok = let has = ask_has r.cursor r.query ok in record { dateline = has.0; is = has.1 }
  has_dateline (queries rs) ok = record { dateline = n; is = refl }

-- ---- cursors as they print

place_plain : (key : Option ℕ) → Commaless (codes ":" ++ place_text key)
place_plain None = (λ e. omega (arith, e), (λ e. omega (arith, e), tt))
place_plain (Some p) = (λ e. omega (arith, e), decimal_plain p)

places_plain : (keys : List (Option ℕ)) → Commaless (flat_map (λ key. codes ":" ++ place_text key) keys)
places_plain [] = tt
places_plain (key ∷ keys) = plain_append (codes ":" ++ place_text key) (flat_map (λ key. codes ":" ++ place_text key) keys) (place_plain key) (places_plain keys)

text_plain : (d : ℕ) (m : Mark) → Commaless (cursor_text d m)
text_plain d m =
    plain_append (codes "c1:" ++ decimal d ++ codes ":" ++ decimal m.object) (flat_map (λ key. codes ":" ++ place_text key) m.keys)
    (plain_append (codes "c1:" ++ decimal d ++ codes ":") (decimal m.object)
    (plain_append (codes "c1:" ++ decimal d) (codes ":")
    (λ e. omega (arith, e), (λ e. omega (arith, e), (λ e. omega (arith, e), decimal_plain d)))
    (λ e. omega (arith, e), tt))
    (decimal_plain m.object))
    (places_plain m.keys)

quoted_plain : (d : ℕ) (m : Mark) → Commaless (compact (text (cursor_text d m)))
quoted_plain d m = (
  λ e. omega (arith, e),
  plain_append (flat_map escaped (cursor_text d m)) (34 ∷ []) (subst Commaless (sym (clear_same (cursor_text d m) (clear_cursor d m))) (text_plain d m)) (λ e. omega (arith, e), tt),
)

cursor_plain : (d : ℕ) (rs : List Row) (more : Bool) → Commaless (compact (page_cursor d rs more))
cursor_plain d rs more = subst (λ c. Commaless (compact c)) (sym (cursor_marks d rs more)) (by (next_mark rs more))
  where
    by : (o : Option Mark) → Commaless (compact (option_map_or (λ m. text (cursor_text d m)) o (boolean false)))
    by None = (λ e. omega (arith, e), (λ e. omega (arith, e), (λ e. omega (arith, e), (λ e. omega (arith, e), (λ e. omega (arith, e), tt)))))
    by (Some m) = quoted_plain d m

-- the cursor of an answer, where it has one
abbrev Plain : Answer → Type 0
Plain (Err r) = Unit {0}
Plain (Ok (None, j)) = Unit {0}
Plain (Ok (Some c, j)) = Commaless (compact c)

page_plain : (d : ℕ) (with : Bool) (rs : List Row) (more : Bool) (r : Result Json Path) → Plain (page_answer (if with then Some (page_cursor d rs more) else None) r)
page_plain d true rs more (Ok j) = cursor_plain d rs more
page_plain d false rs more (Ok j) = tt
page_plain d with rs more (Err path) = tt

asked_plain : (prims : List Primitive) (d : ℕ) (with : Bool) (after : Option Mark) (a : Asked) → Plain (asked_answer prims d with after a)
asked_plain prims d with after a = by (has_heavy_candidate prims a) (is_heavy_page prims a after)
  where
    by : (b c : Bool) → Plain (if b then Err (too_wide (max_candidate_weight + 1)) else if c then Err (too_wide (max_page_weight + 1))
        else page_answer (if with then Some (page_cursor d (page prims a after) (has_more prims a after)) else None) (result_json prims a (rows_after prims a after) (page prims a after)))
    by true c = tt
    by false true = tt
    by false false = page_plain d with (page prims a after) (has_more prims a after) (result_json prims a (rows_after prims a after) (page prims a after))

meant_plain : (prims : List Primitive) (d : ℕ) (with : Bool) (after : Option Mark) (r : Result Asked Unknown) → Plain (meant_answer prims d with after r)
meant_plain prims d with after (Err u) = tt
meant_plain prims d with after (Ok a) = asked_plain prims d with after a

behind_plain : (prims : List Primitive) (d : ℕ) (q : Query) (r : Result Cursor ℕ) → Plain (behind prims d q r)
behind_plain prims d q (Ok c) = meant_plain prims d true (Some c.after) (asked_query prims q)
behind_plain prims d q (Err offset) = tt

ask_plain : (prims : List Primitive) (d : ℕ) (c : CursorAsk) (q : Query) → Plain (page_of prims d c q)
ask_plain prims d no_cursor q = meant_plain prims d false None (asked_query prims q)
ask_plain prims d first_page q = meant_plain prims d true None (asked_query prims q)
ask_plain prims d (page_after t) q = behind_plain prims d q (cursor_of t)

answer_plain : (prims : List Primitive) (d : ℕ) (q : ReadSet) → Plain (read_answer prims d q)
answer_plain prims d (one_query r) = ask_plain prims d r.cursor r.query
answer_plain prims d (queries rs) = tt

-- ---- what is kept of an answer

short : (d k : ℕ) (bytes line : List ℕ) → line ≡ bytes → length line ≤ max_reply → within_reply d k bytes ≡ line
short d k bytes line is low = rw (ltb-false_of max_reply (length bytes) (let same = ap length is in omega (arith, low, same))) (sym is)

-- what is kept of it makes its line, wherever that is short enough
record KeptOf (d : ℕ) (A : Answer) : Type 0 where
  kept : Kept
  plain : IsPlainKept kept
  line : (k : ℕ) → length (kept_text d k kept) ≤ max_reply → answer_line d k A ≡ kept_text d k kept

-- where the line is that of an answer
record Answers (d k : ℕ) (A : Answer) : Type 0 where
  of : KeptOf d A
  low : length (kept_text d k of.kept) ≤ max_reply

within_ok : (d k : ℕ) (bytes line : List ℕ) → line ≡ bytes → is_ok (within_reply d k bytes) ≡ true → length line ≤ max_reply
within_ok d k bytes line is ok = by (nat_lt max_reply (length bytes)) refl ok
  where
    by : (b : Bool) → nat_lt max_reply (length bytes) ≡ b → is_ok (if b then err_line d k (too_large (length bytes)) else bytes) ≡ true → length line ≤ max_reply
    by true high ok = refused_not d k (too_large (length bytes)) ok
    by false low ok = let below = ltb-false max_reply (length bytes) low in let same = ap length is in omega (arith, below, same)

answers : (d k : ℕ) (A : Answer) → Plain A → is_ok (answer_line d k A) ≡ true → Answers d k A
answers d k (Err r) p ok = refused_not d k r ok
answers d k (Ok (None, j)) p ok =
    let kept : Kept = record { cursor = None; outcome = compact j } in record {
      of = record { kept = kept; plain = tt; line = λ i low. short d i (ok_line d i j) (kept_text d i kept) (plain d i j) low };
      low = within_ok d k (ok_line d k j) (kept_text d k kept) (plain d k j) ok;
    }
answers d k (Ok (Some c, j)) p ok =
    let kept : Kept = record { cursor = Some (compact c); outcome = compact j } in record {
      of = record { kept = kept; plain = p; line = λ i low. short d i (ok_cursor_line d i c j) (kept_text d i kept) (with_cursor d i c j) low };
      low = within_ok d k (ok_cursor_line d k c j) (kept_text d k kept) (with_cursor d k c j) ok;
    }

-- LAW: a reply line that begins as one of an answer is that of what may be kept
pub answers_are_kept : AnswersAreKept
answers_are_kept batches n k q within ok =
    let has = has_dateline batches n k q ok in
    let d = has.dateline in
    let A = read_answer (prims_at batches d) d q in
    let line = reply_line batches n d k q has.is in
    let given = answers d k A (answer_plain (prims_at batches d) d q) (subst (λ bytes. is_ok bytes ≡ true) line ok) in
    let of = given.of in
    let below = dateline_low n d q has.is in record {
      dateline = d;
      has = has.is;
      kept = of.kept;
      plain = of.plain;
      is = line ∙ of.line k given.low;
      right = λ text key. record {
        within = omega (arith, below, within);
        right = λ r other m low there i fits.
            let prop = Coded-set (coded_list coded_ℕ) (reply_of batches m i r) (kept_text d i of.kept) in
            ∥∥₁_elim key prop (λ one. ∥∥₁_elim other prop (λ two.
            reply_line batches m d i r there ∙ ap (λ s. answer_line d i (read_answer (prims_at batches d) d s)) (sym (keys_tell text q r one two)) ∙ of.line i fits));
      };
    }

-- ---- later

prims_later : (batches more : List Batch) (d : ℕ) → IsPrefix batches more → d ≤ length batches → prims_at more d ≡ prims_at batches d
prims_later batches more d (rest, is) low = ap prims_of (ap (take d) (sym is) ∙ take-append-le d batches rest low)

kept_right_later : (batches more : List Batch) (key : ReplyKey) (kept : Kept) → IsPrefix batches more → length batches ≤ length more → IsKeptRight batches key kept → IsKeptRight more key kept
kept_right_later batches more key kept begins longer old =
    let d = key.dateline in
    let below = old.within in record {
      within = omega (arith, below, longer);
      right = λ q is n low has k fits.
          reply_line more n d k q has
          ∙ ap (λ ps. answer_line d k (read_answer ps d q)) (prims_later batches more d begins old.within)
          ∙ sym (reply_line batches d d k q (dateline_again n d q has))
          ∙ old.right q is d old.within (dateline_again n d q has) k fits;
    }

pairs_later : (batches more : List Batch) (ps : List (ReplyKey × Kept)) → IsPrefix batches more → length batches ≤ length more → AllByRecursion (λ p. IsKeptRight batches p.0 p.1) ps → AllByRecursion (λ p. IsKeptRight more p.0 p.1) ps
pairs_later batches more [] begins longer all = tt
pairs_later batches more ((key, kept) ∷ ps) begins longer all = (kept_right_later batches more key kept begins longer all.0, pairs_later batches more ps begins longer all.1)

prefix_longer : (batches more : List Batch) → IsPrefix batches more → length batches ≤ length more
prefix_longer batches more (rest, is) = let long = ap length is in omega (arith, long, length-append batches rest)

-- LAW: what is kept rightly is right over all batches that begin with those over which it was
pub kept_later : KeptLater
kept_later batches more s begins all = pairs_later batches more s.pairs begins (prefix_longer batches more begins) all
