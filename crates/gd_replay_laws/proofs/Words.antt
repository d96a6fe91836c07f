-- Which reply lines say a word: none that a refusal prints, nor one with another result.
use Rattle.std.proofs.Common.{◌≡◌, ◌≢◌, ℕ, zero, suc, ◌+◌, ◌/◌, ◌%◌, ◌≤◌, ◌==◌, pos, negsuc, Bool, true, false, if◌then◌else◌, nat_lt, List, [], ◌∷◌, ◌++◌, length, map, codes, decimal, bytes_eq, Option, Some, None, Result, Ok, Err, refl, ap, subst, arith}
use Rattle.std.specs.Fmt.{digits, digits_onto, digit_glyph}
use Rattle.std.proofs.lemmas.List.{append_cancel_left, append_cancel_right}
use Rattle.std.proofs.lemmas.Slice.Eq.{bytes_eq-Decides}
use Rattle.gd_prim.specs.declared.Primitive.{Primitive}
use Rattle.gd_prim.specs.declared.Batch.{Batch}
use Rattle.gd_tree.specs.Json.{Json, Items, Members, no_members, member, null, boolean, number, text, list, object, no_items, item, compact, quoted, number_text}
use Rattle.gd_grammar.specs.Chain.{◌>>=◌}
use Rattle.gd_bytes.specs.Frozen.{Frozen}
use Rattle.gd_defs.specs.History.{prims_at}
use Rattle.gd_defs.specs.Lines.{items_of, Refusal, ok_line, ok_cursor_line, err_line, err_line_plain, too_large, too_wide}
use Rattle.gd_defs.specs.Asked.{Asked, Unknown, asked_query}
use Rattle.gd_defs.specs.Rows.{Row}
use Rattle.gd_defs.specs.Reply.{Mark, Answer, Path, answer, answer_item, answer_line, asked_answer, meant_answer, page_answer, result_json, as_list, each_row, object_json, is_ambiguous, has_heavy_candidate, is_heavy_page, page, rows_after, page_cursor, has_more, max_candidate_weight, max_page_weight, within_reply, max_reply}
use Rattle.gd_runs.specs.Request.{ReadRequest, ReadSet, one_query, queries, queries_reply, asks_page}
use Rattle.gd_runs.specs.Core.{Reading, owed_line, said}

-- ---- bytes that are the same

pub same_bytes : (xs : List ℕ) → bytes_eq xs xs ≡ true
same_bytes xs = (bytes_eq-Decides xs xs).1 refl

pub other_bytes : (xs ys : List ℕ) → (xs ≡ ys → ⊥) → bytes_eq xs ys ≡ false
other_bytes xs ys apart = by (bytes_eq xs ys) refl
  where
    by : (b : Bool) → bytes_eq xs ys ≡ b → bytes_eq xs ys ≡ false
    by true is = absurd (apart ((bytes_eq-Decides xs ys).0 is))
    by false is = is

-- ---- a refusal says nothing

-- a reply says no word, at no dateline
abbrev pub IsNoWord : ℕ → List ℕ → Type 0
IsNoWord k reply = (n : ℕ) (what : List ℕ) → bytes_eq reply (said n k what) ≡ false

pub plain_says : (k : ℕ) (r : Refusal) → IsNoWord k (err_line_plain k r)
plain_says k r = λ n what. refl

-- ---- digits

-- no byte is below 48
abbrev High : List ℕ → Type 0
High [] = Unit {0}
High (c ∷ cs) = (48 ≤ c) × High cs

above : (b : Bool) (m n : ℕ) → 48 ≤ m → 48 ≤ n → 48 ≤ (if b then m else n)
above true m n p q = p
above false m n p q = q

either : (b : Bool) (xs ys : List ℕ) → High xs → High ys → High (if b then xs else ys)
either true xs ys p q = p
either false xs ys p q = q

glyph : (n : ℕ) → 48 ≤ digit_glyph false n
glyph n = above (nat_lt n 10) (48 + n) (87 + n) (omega arith) (omega arith)

high_onto : (k n : ℕ) (behind : List ℕ) → High behind → High (digits_onto k 10 false n behind)
high_onto zero n behind p = p
high_onto (suc k) n behind p =
    either (n / 10 == 0) (digit_glyph false (n % 10) ∷ behind) (digits_onto k 10 false (n / 10) (digit_glyph false (n % 10) ∷ behind)) (glyph (n % 10), p)
    (high_onto k (n / 10) (digit_glyph false (n % 10) ∷ behind) (glyph (n % 10), p))

high_decimal : (n : ℕ) → High (decimal n)
unfolding digits
high_decimal n = high_onto 64 n [] tt

quote_low : (cs : List ℕ) → High (34 ∷ cs) → ⊥
quote_low cs high = let over = high.0 in absurd (omega (arith, over))

-- ---- a text, and what is none

-- a value is no text
abbrev pub IsNoText : Json → Type 0
IsNoText (text t) = ⊥
IsNoText _ = Unit {0}

abbrev first_byte : List ℕ → ℕ
first_byte [] = 0
first_byte (c ∷ cs) = c

differ : (c : ℕ) (cs w : List ℕ) → c ≢ 34 → c ∷ cs ≡ quoted w → ⊥
differ c cs w other is = other (ap first_byte is)

other_value : (j : Json) (w : List ℕ) → IsNoText j → compact j ≡ quoted w → ⊥
other_value null w other is = differ 110 _ w (λ e. absurd (omega (arith, e))) is
other_value (boolean true) w other is = differ 116 _ w (λ e. absurd (omega (arith, e))) is
other_value (boolean false) w other is = differ 102 _ w (λ e. absurd (omega (arith, e))) is
other_value (number (pos n)) w other is = quote_low _ (subst High is (high_decimal n))
other_value (number (negsuc n)) w other is = differ 45 _ w (λ e. absurd (omega (arith, e))) is
other_value (text t) w other is = absurd other
other_value (list no_items) w other is = differ 91 _ w (λ e. absurd (omega (arith, e))) is
other_value (list (item j js)) w other is = differ 91 _ w (λ e. absurd (omega (arith, e))) is
other_value (object no_members) w other is = differ 123 _ w (λ e. absurd (omega (arith, e))) is
other_value (object (member k j ms)) w other is = differ 123 _ w (λ e. absurd (omega (arith, e))) is

-- the parts of an answer before its result
abbrev coded : List ℕ
coded = codes "{" ++ quoted (codes "code") ++ codes ":" ++ quoted (codes "/api/status/ok")

abbrev counted : List ℕ → ℕ → List ℕ
counted name n = codes "," ++ quoted name ++ codes ":" ++ number_text (pos n)

abbrev named : List ℕ
named = codes "," ++ quoted (codes "result") ++ codes ":"

-- a line with another result at the same dateline
pub other_line : (n k : ℕ) (j : Json) (w : List ℕ) → IsNoText j → ok_line n k j ≡ said n k w → ⊥
other_line n k j w other is = other_value j w other (results (members_same is))
  where
    members_same : ok_line n k j ≡ said n k w → named ++ compact j ++ [] ≡ named ++ quoted w ++ []
    members_same same =
        append_cancel_left (counted (codes "line") k) (named ++ compact j ++ []) (named ++ quoted w ++ [])
        (append_cancel_left (counted (codes "dateline") n) (counted (codes "line") k ++ (named ++ compact j ++ [])) (counted (codes "line") k ++ (named ++ quoted w ++ []))
        (append_cancel_left coded (counted (codes "dateline") n ++ (counted (codes "line") k ++ (named ++ compact j ++ []))) (counted (codes "dateline") n ++ (counted (codes "line") k ++ (named ++ quoted w ++ [])))
        (append_cancel_right (coded ++ (counted (codes "dateline") n ++ (counted (codes "line") k ++ (named ++ compact j ++ [])))) (coded ++ (counted (codes "dateline") n ++ (counted (codes "line") k ++ (named ++ quoted w ++ [])))) (codes "}") same)))

    results : named ++ compact j ++ [] ≡ named ++ quoted w ++ [] → compact j ≡ quoted w
    results same = append_cancel_left named (compact j) (quoted w) (append_cancel_right (named ++ compact j) (named ++ quoted w) [] same)

pub other_says : (n k : ℕ) (j : Json) (w : List ℕ) → IsNoText j → bytes_eq (ok_line n k j) (said n k w) ≡ false
other_says n k j w other = other_bytes (ok_line n k j) (said n k w) (other_line n k j w other)

-- ---- what a query prints is no text

-- what is printed, if anything is, is no text
abbrev PrintsNoText : {E : Type 0} → Result Json E → Type 0
PrintsNoText (Ok j) = IsNoText j
PrintsNoText (Err e) = Unit {0}

-- nor is the first of rows
first_row : (prims : List Primitive) (q : Asked) (rs : List Row) → PrintsNoText (as_list false (each_row (λ r. object_json prims q.members 0 r.object >>= λ m. Ok (object m)) rs))
first_row prims q [] = tt
first_row prims q (r ∷ rs) = by (object_json prims q.members 0 r.object) (each_row (λ x. object_json prims q.members 0 x.object >>= λ m. Ok (object m)) rs)
  where
    by : (m : Result Members Path) (more : Result Items Path) → PrintsNoText (as_list false ((m >>= λ ms. Ok (object ms)) >>= λ j. more >>= λ js. Ok (item j js)))
    by (Err e) more = tt
    by (Ok m) (Err e) = tt
    by (Ok m) (Ok js) = tt

listed_rows : (rows : Result Items Path) → PrintsNoText (as_list true rows)
listed_rows (Err e) = tt
listed_rows (Ok js) = tt

prints_rows : (prims : List Primitive) (q : Asked) (listed : Bool) (rs : List Row) → PrintsNoText (as_list listed (each_row (λ r. object_json prims q.members 0 r.object >>= λ m. Ok (object m)) rs))
prints_rows prims q true rs = listed_rows (each_row (λ r. object_json prims q.members 0 r.object >>= λ m. Ok (object m)) rs)
prints_rows prims q false rs = first_row prims q rs

either_prints : (b : Bool) (x y : Result Json Path) → PrintsNoText x → PrintsNoText y → PrintsNoText (if b then x else y)
either_prints true x y p q = p
either_prints false x y p q = q

prints_result : (prims : List Primitive) (q : Asked) (behind rs : List Row) → PrintsNoText (result_json prims q behind rs)
prints_result prims q behind rs =
    either_prints (is_ambiguous q.single (length behind)) (Err []) _ tt
    (either_prints q.count _ _ tt (prints_rows prims q q.listed rs))

-- ---- what a reading owes says no word

module _ (n k : ℕ) (w : List ℕ) where
  abbrev Other : List ℕ → Type 0
  Other line = bytes_eq line (said n k w) ≡ false

  within_other : (line : List ℕ) → Other line → Other (within_reply n k line)
  within_other line other = by (nat_lt max_reply (length line))
    where
      by : (b : Bool) → Other (if b then err_line n k (too_large (length line)) else line)
      by true = refl
      by false = other

  result_other : (cursor : Option Json) (r : Result Json Path) → PrintsNoText r → Other (answer_line n k (page_answer cursor r))
  result_other cursor (Err path) none = refl
  result_other None (Ok j) none = within_other (ok_line n k j) (other_says n k j w none)
  result_other (Some c) (Ok j) none = within_other (ok_cursor_line n k c j) refl

  asked_other : (prims : List Primitive) (m : ℕ) (with_cursor : Bool) (after : Option Mark) (q : Asked) → Other (answer_line n k (asked_answer prims m with_cursor after q))
  asked_other prims m with_cursor after q = by (has_heavy_candidate prims q) (is_heavy_page prims q after)
    where
      rest : Answer
      rest = page_answer (if with_cursor then Some (page_cursor m (page prims q after) (has_more prims q after)) else None) (result_json prims q (rows_after prims q after) (page prims q after))

      by : (b c : Bool) → Other (answer_line n k (if b then Err (too_wide (max_candidate_weight + 1)) else if c then Err (too_wide (max_page_weight + 1)) else rest))
      by true c = refl
      by false true = refl
      by false false = result_other _ (result_json prims q (rows_after prims q after) (page prims q after)) (prints_result prims q (rows_after prims q after) (page prims q after))

  meant_other : (prims : List Primitive) (m : ℕ) (with_cursor : Bool) (after : Option Mark) (r : Result Asked Unknown) → Other (answer_line n k (meant_answer prims m with_cursor after r))
  meant_other prims m with_cursor after (Err u) = refl
  meant_other prims m with_cursor after (Ok q) = asked_other prims m with_cursor after q

  queries_other : (bs : List Batch) (rs : List ReadRequest) → Other (queries_reply bs n k rs)
  queries_other bs rs = within_other (ok_line n k (list (items_of (map (λ r. answer_item (answer (prims_at bs n) n (asks_page r.cursor) None r.query)) rs)))) (other_says n k (list (items_of (map (λ r. answer_item (answer (prims_at bs n) n (asks_page r.cursor) None r.query)) rs))) w tt)

-- a reading that was not thawed owes no line that says a word
pub owed_says : (bs : List Batch) (k : ℕ) (r : Reading) (w : List ℕ) → r.thawed ≡ None → bytes_eq (owed_line bs k r) (said r.dateline k w) ≡ false
owed_says bs k r w unthawed = by r.thawed r.request unthawed
  where
    by : (t : Option Frozen) (a : ReadSet) → t ≡ None → bytes_eq (owed_line bs k (record r { thawed = t; request = a })) (said r.dateline k w) ≡ false
    by None (one_query q) is = meant_other r.dateline k w (prims_at bs r.dateline) r.dateline (asks_page q.cursor) r.after (asked_query (prims_at bs r.dateline) q.query)
    by None (queries rs) is = queries_other r.dateline k w bs rs
    by (Some f) a is = absurd (cc)
