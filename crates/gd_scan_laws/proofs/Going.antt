-- A scan that goes on between candidates owes what it did at its start.
use Rattle.std.proofs.Common.{◌≡◌, ⊎_elim, ℕ, zero, suc, ◌+◌, ◌<◌, ◌≤◌, List, [], ◌∷◌, ◌++◌, Bool, true, false, cond, Option, None, Some, Ok, length, take, map, filter, refl, sym, ap, ◌∙◌, arith, Err}
use Rattle.std.specs.Prelude.{nat_le, nat_lt, ◌&&◌, ◌||◌, not, if◌then◌else◌, codes, slice_get}
use Rattle.std.specs.List.{list_any, list_all}
use Rattle.std.specs.Ordering.{nat_cmp, is_lt}
use Rattle.std.proofs.lemmas.Bool.{le-leb, ltb-true, lt-ltb}
use Rattle.std.proofs.lemmas.Cmp.{nat_cmp_total}
use Rattle.std.proofs.lemmas.List.Elements.{filter-append}
use Rattle.gd_prim.specs.declared.Primitive.{Primitive}
use Rattle.gd_prim.specs.Live.{is_live, is_current, passes_at}
use Rattle.gd_page_laws.proofs.PassedOn.{take_longer, more_than}
use Rattle.gd_defs.specs.Asked.{Asked}
use Rattle.gd_defs.specs.Lines.{too_wide, refused_at, count_json}
use Rattle.gd_defs.specs.Plan.{template_of}
use Rattle.gd_defs.specs.Reply.{Mark, mark_row, row_mark, page_cursor, max_candidate_weight, max_page_weight, Answer, page_answer}
use Rattle.gd_defs.specs.Rows.{Row, row_of, row_cmp}
use Rattle.gd_defs.specs.Template.{Template, template, passes_template, is_answer, meets_constraints, meets_clauses, holds}
use Rattle.gd_page_laws.specs.PassedOn.{ScanOrder, Candidate, candidate, candidates_from, weighs_too_much, page_shape, window, answering, built_trees, built_weight, row_candidates}
use Rattle.gd_order_laws.specs.Window.{In, Each, Apart}
use Rattle.gd_order_laws.proofs.Rows.{In-map, apart_rows}
use Rattle.gd_order_laws.proofs.Sorted.{Apart-filter, In-filter, In-sorted}
use Rattle.gd_scan_laws.specs.Ordered.{start, settled, scan_answer, scanned}
use Rattle.gd_scan_laws.proofs.Objects.{both_true, passes_there}
use Rattle.gd_scan_laws.proofs.Settled.{first_of_window, marks_again, In-take}
use Rattle.gd_scan_laws.proofs.Start.{any_append, any_map, answer_rows, answers_first, answer_by, heavy_by, heavy_answer, start_answer}

module _ {A : Type 0} where
  map_append : {B : Type 0} (f : A → B) (xs ys : List A) → map f (xs ++ ys) ≡ map f xs ++ map f ys
  map_append f [] ys = refl
  map_append f (x ∷ xs) ys = ap (λ l. f x ∷ l) (map_append f xs ys)

-- ---- the candidates from a place on

behind_all : (prims : List Primitive) (t : Template) (from : ℕ) (behind : ScanOrder) → Each (λ c. from ≤ c.0) behind → candidates_from prims t behind from ≡ map (candidate prims t) (filter (passes_template prims t) (map (λ c. c.1) behind))
behind_all prims t from [] all = refl
behind_all prims t from (c ∷ behind) all =
    ap (λ b. map (λ d. candidate prims t d.1) (cond (b && passes_template prims t c.1) (c ∷ filter (λ d. nat_le from d.0 && passes_template prims t d.1) behind) (filter (λ d. nat_le from d.0 && passes_template prims t d.1) behind))) (le-leb from c.0 all.0)
    ∙ by (passes_template prims t c.1) (behind_all prims t from behind all.1)
  where
    by : (b : Bool) → candidates_from prims t behind from ≡ map (candidate prims t) (filter (passes_template prims t) (map (λ d. d.1) behind))
        → map (λ d. candidate prims t d.1) (cond b (c ∷ filter (λ d. nat_le from d.0 && passes_template prims t d.1) behind) (filter (λ d. nat_le from d.0 && passes_template prims t d.1) behind))
        ≡ map (candidate prims t) (cond b (c.1 ∷ filter (passes_template prims t) (map (λ d. d.1) behind)) (filter (passes_template prims t) (map (λ d. d.1) behind)))
    by true rest = ap (λ l. candidate prims t c.1 ∷ l) rest
    by false rest = rest

not_reached : (from x : ℕ) → x < from → nat_le from x ≡ false
not_reached from x less = by (nat_le from x) refl
  where
    by : (b : Bool) → nat_le from x ≡ b → b ≡ false
    by false is = refl
    by true is = let up : from ≤ x = Rattle.std.proofs.lemmas.Bool.leb-true from x is in absurd (omega (arith, less, up))

before_none : (prims : List Primitive) (t : Template) (from : ℕ) (before behind : ScanOrder) → Each (λ c. c.0 < from) before → candidates_from prims t (before ++ behind) from ≡ candidates_from prims t behind from
before_none prims t from [] behind all = refl
before_none prims t from (c ∷ before) behind all =
    ap (λ b. map (λ d. candidate prims t d.1) (cond (b && passes_template prims t c.1) (c ∷ filter (λ d. nat_le from d.0 && passes_template prims t d.1) (before ++ behind)) (filter (λ d. nat_le from d.0 && passes_template prims t d.1) (before ++ behind)))) (not_reached from c.0 all.0)
    ∙ before_none prims t from before behind all.1

module _ (prims : List Primitive) (q : Asked) where
  scanned_append : (before behind : ScanOrder) → scanned prims q (before ++ behind) ≡ scanned prims q before ++ scanned prims q behind
  scanned_append before behind = ap (filter (passes_template prims (template_of q))) (map_append (λ c. c.1) before behind) ∙ filter-append (passes_template prims (template_of q)) (map (λ c. c.1) before) (map (λ c. c.1) behind)

  rows_append : (ps rs : List ℕ) → answer_rows prims q (ps ++ rs) ≡ answer_rows prims q ps ++ answer_rows prims q rs
  rows_append ps rs = ap (map (row_of prims q.sort 0)) (filter-append (is_answer prims (template_of q)) ps rs) ∙ map_append (row_of prims q.sort 0) (filter (is_answer prims (template_of q)) ps) (filter (is_answer prims (template_of q)) rs)

  -- the rows that a window keeps of settled places, one more than a page has
  abbrev pub kept_rows : Option Mark → ScanOrder → List Row
  kept_rows after before = take (suc q.limit) (window prims q after (answer_rows prims q (scanned prims q before)))

  known : (after : Option Mark) (before : ScanOrder) (r : Row) → In r (kept_rows after before) → (o : ℕ) × (o < length prims) × (row_of prims q.sort 0 o ≡ r)
  known after before r here =
      let offered = in_window after (answer_rows prims q (scanned prims q before)) r (In-take (suc q.limit) (window prims q after (answer_rows prims q (scanned prims q before))) r here) in
      let from = In-map (row_of prims q.sort 0) (filter (is_answer prims (template_of q)) (scanned prims q before)) r offered in
      let answers = (In-filter (is_answer prims (template_of q)) (scanned prims q before) from.0 from.1).1 in
      (from.0, inside from.0 (template_of q) answers, from.2)
    where
      in_window : (a : Option Mark) (rows : List Row) (s : Row) → In s (window prims q a rows) → In s rows
      in_window None rows s there = ⊎_elim (λ none. absurd none) (λ found. found) (In-sorted (row_cmp prims q.sort) [] rows s there)
      in_window (Some m) rows s there =
          (In-filter (λ t. is_lt (row_cmp prims q.sort (mark_row prims q.sort m) t)) rows s
          (⊎_elim (λ none. absurd none) (λ found. found) (In-sorted (row_cmp prims q.sort) [] (filter (λ t. is_lt (row_cmp prims q.sort (mark_row prims q.sort m) t)) rows) s there))).0

      got : (xs : List Primitive) (o : ℕ) (x : Primitive) → slice_get xs o ≡ Some x → o < length xs
      got [] o x is = cc
      got (y ∷ xs) zero x is = omega arith
      got (y ∷ xs) (suc o) x is = let rest = got xs o x is in omega (arith, rest)

      inside : (o : ℕ) (t : Template) → is_answer prims t o ≡ true → o < length prims
      inside o (template cs below) answers =
          let constraints = both_true (meets_constraints prims cs o) (meets_clauses prims below o) answers in
          let live = both_true (is_live prims o) (list_all (λ c. holds prims c o) cs) constraints.0 in
          let placed = both_true (passes_at (λ p. p.live) prims o) (is_current prims o) live.0 in
          let at = passes_there (λ p. p.live) prims o placed.0 in
          got prims o at.0 at.1

  module _ (dateline : ℕ) (with_cursor : Bool) (after : Option Mark) where
    -- an answer by the page, and by whether there are two rows and whether more follow
    abbrev answer_of : Bool → List Row → Bool → Bool → Answer
    answer_of heavy page two more =
        if heavy || list_any weighs_too_much (row_candidates prims q 0 page) then Err (too_wide (max_candidate_weight + 1))
        else if not q.count && nat_lt max_page_weight (built_weight (row_candidates prims q 0 page)) then Err (too_wide (max_page_weight + 1))
        else if q.single && two then Err (refused_at (codes "NotUnique") [])
        else page_answer (if with_cursor then Some (page_cursor dateline page more) else None)
        (if q.count then Ok (count_json (length page)) else page_shape prims q (built_trees (row_candidates prims q 0 page)) [])

    -- an answer hangs on the first rows alone, one more than a page has
    first_rows : 0 < q.limit → (heavy : Bool) (offered : List Row) → answer_by prims q dateline with_cursor after heavy offered
        ≡ answer_of heavy (take q.limit (take (suc q.limit) offered)) (nat_lt 1 (length (take (suc q.limit) offered))) (nat_lt q.limit (length (take (suc q.limit) offered)))
    first_rows some heavy offered =
        ap (λ page. answer_of heavy page (nat_lt 1 (length offered)) (nat_lt q.limit (length offered))) (sym (take_longer q.limit offered))
        ∙ (ap (λ two. answer_of heavy (take q.limit (take (suc q.limit) offered)) two (nat_lt q.limit (length offered))) (sym (more_than 1 (suc q.limit) offered (omega (arith, some))))
        ∙ ap (answer_of heavy (take q.limit (take (suc q.limit) offered)) (nat_lt 1 (length (take (suc q.limit) offered)))) (sym (more_than q.limit (suc q.limit) offered (omega arith))))

    same_first : 0 < q.limit → (heavy : Bool) (one two : List Row) → take (suc q.limit) one ≡ take (suc q.limit) two → answer_by prims q dateline with_cursor after heavy one ≡ answer_by prims q dateline with_cursor after heavy two
    same_first some heavy one two same =
        first_rows some heavy one
        ∙ (ap (λ l. answer_of heavy (take q.limit l) (nat_lt 1 (length l)) (nat_lt q.limit (length l))) same ∙ sym (first_rows some heavy two))

    -- a scan that has settled the places before one, of which no candidate weighs too much, and keeps their best rows
    pub going_on : (from : ℕ) (before behind : ScanOrder) → Each (λ c. c.0 < from) before → Each (λ c. from ≤ c.0) behind → list_any (λ p. weighs_too_much (candidate prims (template_of q) p)) (scanned prims q before) ≡ false
        → Apart nat_cmp (scanned prims q before) → 0 < q.limit
        → scan_answer prims q (before ++ behind) dateline with_cursor after (map row_mark (kept_rows after before)) (settled from) ≡ scan_answer prims q (before ++ behind) dateline with_cursor after [] start
    going_on from before behind below above light once some =
        ap (λ cs. heavy_by prims q dateline with_cursor after cs (window prims q after (map (mark_row prims q.sort) (map row_mark (kept_rows after before)) ++ map (row_of prims q.sort 0) (answering cs)))) (before_none prims plan from before behind below ∙ behind_all prims plan from behind above)
        ∙ (ap (λ l. heavy_by prims q dateline with_cursor after later (window prims q after (l ++ map (row_of prims q.sort 0) (answering later)))) (marks_again prims q (kept_rows after before) (known after before))
        ∙ (ap (λ ps. heavy_by prims q dateline with_cursor after later (window prims q after (kept_rows after before ++ map (row_of prims q.sort 0) ps))) (answers_first prims plan (scanned prims q behind))
        ∙ (heavy_answer prims q dateline with_cursor after later (window prims q after (kept_rows after before ++ answer_rows prims q (scanned prims q behind)))
        ∙ (ap (λ b. answer_by prims q dateline with_cursor after b (window prims q after (kept_rows after before ++ answer_rows prims q (scanned prims q behind)))) heavy_is
        ∙ (same_first some (list_any heavy (scanned prims q (before ++ behind))) (window prims q after (kept_rows after before ++ answer_rows prims q (scanned prims q behind))) (window prims q after (answer_rows prims q (scanned prims q (before ++ behind)))) rows_are
        ∙ sym (start_answer prims q dateline with_cursor after (before ++ behind)))))))
      where
        plan : Template
        plan = template_of q

        heavy : ℕ → Bool
        heavy p = weighs_too_much (candidate prims (template_of q) p)

        later : List Candidate
        later = map (candidate prims (template_of q)) (scanned prims q behind)

        heavy_is : list_any weighs_too_much (map (candidate prims (template_of q)) (scanned prims q behind)) ≡ list_any (λ p. weighs_too_much (candidate prims (template_of q) p)) (scanned prims q (before ++ behind))
        heavy_is =
            any_map weighs_too_much (candidate prims plan) (scanned prims q behind)
            ∙ (ap (λ b. b || list_any (λ p. weighs_too_much (candidate prims (template_of q) p)) (scanned prims q behind)) (sym light)
            ∙ (sym (any_append (λ p. weighs_too_much (candidate prims (template_of q) p)) (scanned prims q before) (scanned prims q behind))
            ∙ ap (list_any (λ p. weighs_too_much (candidate prims (template_of q) p))) (sym (scanned_append before behind))))

        rows_are : take (suc q.limit) (window prims q after (kept_rows after before ++ answer_rows prims q (scanned prims q behind))) ≡ take (suc q.limit) (window prims q after (answer_rows prims q (scanned prims q (before ++ behind))))
        rows_are =
            first_of_window prims q after (suc q.limit) (answer_rows prims q (scanned prims q before)) (answer_rows prims q (scanned prims q behind))
            (apart_rows prims q (filter (is_answer prims plan) (scanned prims q before)) (Apart-filter nat_cmp nat_cmp_total (is_answer prims plan) (scanned prims q before) once))
            ∙ ap (λ l. take (suc q.limit) (window prims q after l)) (sym (rows_append (scanned prims q before) (scanned prims q behind)) ∙ ap (answer_rows prims q) (sym (scanned_append before behind)))
