-- A reading that begins where a text says, with a window to which the rows of the text were offered.
use Rattle.std.proofs.Common.{◌≡◌, ◌∙◌, refl, sym, ap, subst, arith, ℕ, ◌<◌, List, [], ◌∷◌, ◌++◌, Bool, true, false, ◌&&◌, cond, Option, Err, ◌+◌, length, take, map, filter}
use Rattle.std.specs.Prelude.{nat_le, if◌then◌else◌}
use Rattle.std.specs.List.{list_any}
use Rattle.std.proofs.lemmas.List.{append-nil}
use Rattle.std.proofs.lemmas.Bool.Decides.{nat_tests}
use Rattle.gd_prim.specs.declared.Primitive.{Primitive}
use Rattle.gd_tree.specs.Trees.{Trees, list_of}
use Rattle.gd_defs.specs.Asked.{Asked}
use Rattle.gd_defs.specs.Lines.{too_wide}
use Rattle.gd_defs.specs.Plan.{template_of}
use Rattle.gd_defs.specs.Reply.{Mark, mark_row, max_candidate_weight, Answer}
use Rattle.gd_defs.specs.Rows.{Row, row_of}
use Rattle.gd_defs.specs.Template.{Template, passes_template}
use Rattle.gd_bytes.specs.Frozen.{Scan, Body, scanning, building}
use Rattle.gd_runs.specs.Owed.{ScanOrder, Candidate, candidate, tried, owed_by, weighs_too_much, scan_fits}
use Rattle.gd_runs.specs.Thawed.{window, answering, built_trees, built_weight, page_of_rows, row_candidates, body_answer}
use Rattle.gd_match_laws.specs.PassedOn.{start}
use Rattle.gd_match_laws.specs.Best.{page_of}
use Rattle.gd_match_laws.specs.Moves.{stays}
use Rattle.gd_match_laws.specs.Rows.{rows_order}
use Rattle.gd_match_laws.proofs.Bodies.{rows-owed}
use Rattle.gd_window.specs.Kept.{Kept, HasSeen}
use Rattle.gd_suspended_laws.specs.Standing.{marks_of, rows_of, window_of}
use Rattle.gd_thaw_laws.specs.Gone.{RowsTold, read_rows, HasGone}
use Rattle.gd_thaw_laws.proofs.Gone.{gone_keeps, gone_reads, best_owe}
use Rattle.gd_thaw_laws.specs.Spelled.{one_member}

-- ---- orders

filter_both : (a b : ℕ × ℕ → Bool) (cs : ScanOrder) → filter (λ c. a c && b c) cs ≡ filter a (filter b cs)
filter_both a b [] = refl
filter_both a b (c ∷ cs) = by (a c) refl (b c) refl (filter_both a b cs)
  where
    by : (x : Bool) → a c ≡ x → (y : Bool) → b c ≡ y → filter (λ c. a c && b c) cs ≡ filter a (filter b cs) → cond (a c && b c) (c ∷ filter (λ c. a c && b c) cs) (filter (λ c. a c && b c) cs) ≡ filter a (cond (b c) (c ∷ filter b cs) (filter b cs))
    by true x true y rest = rw (x, y) (ap (λ l. c ∷ l) rest ∙ sym (ap (λ d. cond d (c ∷ filter a (filter b cs)) (filter a (filter b cs))) x))
    by true x false y rest = rw (x, y) rest
    by false x true y rest = rw (x, y) (rest ∙ sym (ap (λ d. cond d (c ∷ filter a (filter b cs)) (filter a (filter b cs))) x))
    by false x false y rest = rw (x, y) rest

-- LAW: what a scan owes hangs on the candidates of its order alone
pub owed_alike : (prims : List Primitive) (t : Template) (one other : ScanOrder) (s : Scan) → filter (λ c. passes_template prims t c.1) one ≡ filter (λ c. passes_template prims t c.1) other → owed_by prims t one s ≡ owed_by prims t other s
owed_alike prims t one other s same =
    ap (λ l. tried prims t s.weight s.frames ++ map (λ c. candidate prims t c.1) l)
    (filter_both (λ c. nat_le s.iter.place c.0) (λ c. passes_template prims t c.1) one
    ∙ ap (filter (λ c. nat_le s.iter.place c.0)) same
    ∙ sym (filter_both (λ c. nat_le s.iter.place c.0) (λ c. passes_template prims t c.1) other))

module _ (prims : List Primitive) (q : Asked) (dateline : ℕ) (with_cursor : Bool) (after : Option Mark) (kept : List Mark) where
  -- the answer of a reading that scans, by what it owes
  abbrev scans_answer : List Candidate → Answer
  scans_answer owed =
      let rows : List Row = window prims q after (map (mark_row prims q.sort) kept ++ map (row_of prims q.sort 0) (answering owed)) in
      if list_any weighs_too_much (owed ++ row_candidates prims q 0 (take q.limit rows)) then Err (too_wide (max_candidate_weight + 1))
      else page_of_rows prims q dateline with_cursor (length rows) (take q.limit rows) (built_weight (row_candidates prims q 0 (take q.limit rows))) (built_trees (row_candidates prims q 0 (take q.limit rows))) []

  -- LAW: a reading that scans owes what another one does whose scan owes the same
  pub scans_alike : (one other : ScanOrder) (s m : Scan) → owed_by prims (template_of q) one s ≡ owed_by prims (template_of q) other m
      → body_answer prims q one dateline with_cursor after kept (scanning s) ≡ body_answer prims q other dateline with_cursor after kept (scanning m)
  scans_alike one other s m same = ap scans_answer same

  -- the answer of a reading that builds, with this weight and these trees so far, by what is still to be built
  abbrev build_answer : ℕ → Trees → List Candidate → Answer
  build_answer weight ts built = if list_any weighs_too_much built then Err (too_wide (max_candidate_weight + 1))
      else page_of_rows prims q dateline with_cursor (length (window prims q after (map (mark_row prims q.sort) kept))) (page_of prims q after kept) (weight + built_weight built) (list_of ts ++ built_trees built) []

  -- LAW: a reading that builds owes what another one does that stands at the same row and tries the same candidate
  pub builds_same : (order : ScanOrder) (weight : ℕ) (ts : Trees) (s m : Scan) → tried prims (template_of q) s.weight s.frames ≡ tried prims (template_of q) m.weight m.frames → s.iter.place ≡ m.iter.place
      → body_answer prims q order dateline with_cursor after kept (building weight ts s) ≡ body_answer prims q order dateline with_cursor after kept (building weight ts m)
  builds_same order weight ts s m same at =
      ap (λ cs. build_answer weight ts ((if q.count then [] else cs) ++ row_candidates prims q s.iter.place (page_of prims q after kept))) same
      ∙ ap (λ n. build_answer weight ts ((if q.count then [] else tried prims (template_of q) m.weight m.frames) ++ row_candidates prims q n (page_of prims q after kept))) at

  -- LAW: a reading that builds owes what another one does whose scan owes the same of the rows of its page
  pub builds_alike : (order : ScanOrder) (weight : ℕ) (ts : Trees) (s m : Scan) → q.count ≡ false
      → owed_by prims (template_of q) (rows_order (page_of prims q after kept)) s ≡ owed_by prims (template_of q) (rows_order (page_of prims q after kept)) m
      → body_answer prims q order dateline with_cursor after kept (building weight ts s) ≡ body_answer prims q order dateline with_cursor after kept (building weight ts m)
  builds_alike order weight ts s m listed same =
      ap (build_answer weight ts)
      (rows-owed prims q s (page_of prims q after kept) listed ∙ (same ∙ sym (rows-owed prims q m (page_of prims q after kept) listed)))

-- ---- rows

zero_first : (n : ℕ) → nat_le 0 n ≡ true
zero_first n = grind (arith, nat_tests)

first_place : (n : ℕ) → (nat_le 0 n && true) ≡ true
first_place n = ap (λ b. b && true) (zero_first n)

module _ (law : RowsTold) (prims : List Primitive) (q : Asked) (after : Option Mark) (kept : List Mark) (w : Kept) (is : w ≡ window_of prims q after w.rows) (seen : HasSeen w (read_rows prims q kept)) where
  abbrev begun : HasGone prims q after [] kept start start w
  begun = record { given = []; runs = stays start; light = refl; is = is; seen = subst (HasSeen w) (sym (append-nil (read_rows prims q kept))) seen }

  fits : scan_fits prims one_member (template_of q) start ≡ true
  fits = ap (λ b. b && true) (first_place (length prims))

  -- LAW: the rows that such a window keeps are read again from their marks
  pub kept_again : window prims q after (map (mark_row prims q.sort) (marks_of w)) ≡ rows_of w
  kept_again = gone_reads law prims one_member q after [] kept start start w fits begun

  -- LAW: with these a reading owes what it does with the rows of the text
  pub kept_owe : (order : ScanOrder) (dateline : ℕ) (with_cursor : Bool) (body : Body) → 0 < q.limit → body_answer prims q order dateline with_cursor after (marks_of w) body ≡ body_answer prims q order dateline with_cursor after kept body
  kept_owe order dateline with_cursor body some =
      ap (λ l. body_answer prims q order dateline with_cursor after l body) (gone_keeps law prims q after [] kept start start w begun)
      ∙ sym (best_owe prims q order dateline with_cursor after kept body some)
