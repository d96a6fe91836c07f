-- What a reading owes that builds or prints the page of a window, whose rows are read again from their marks: whatever rows these are.
use Rattle.std.proofs.Common.{◌≡◌, ◌∙◌, refl, sym, ap, subst, ℕ, ◌+◌, List, [], ◌++◌, Bool, true, false, ◌&&◌, not, Option, None, Some, Ok, length, take, map, Err}
use Rattle.std.specs.Prelude.{nat_lt, if◌then◌else◌, codes}
use Rattle.std.specs.List.{list_any}
use Rattle.gd_prim.specs.declared.Primitive.{Primitive}
use Rattle.gd_tree.specs.Trees.{Tree, Trees, append, trees_of, list_of}
use Rattle.gd_defs.specs.Asked.{Asked}
use Rattle.gd_defs.specs.Lines.{too_wide, refused_at, count_json}
use Rattle.gd_defs.specs.Plan.{template_of}
use Rattle.gd_defs.specs.Reply.{Mark, mark_row, page_cursor, is_ambiguous, max_candidate_weight, max_page_weight, Answer, page_answer}
use Rattle.gd_defs.specs.Rows.{Row}
use Rattle.gd_bytes.specs.Frozen.{Scan, Walk, building, printing}
use Rattle.gd_runs.specs.Owed.{ScanOrder, Candidate, candidate, tried, owed_by, weighs_too_much}
use Rattle.gd_runs.specs.Shape.{page_shape}
use Rattle.gd_runs.specs.Thawed.{window, built_trees, built_weight, page_of_rows, row_candidates, row_tried, body_answer}
use Rattle.gd_match_laws.specs.Moves.{order_from, Runs}
use Rattle.gd_match_laws.specs.Laws.{AtEnd}
use Rattle.gd_match_laws.specs.Rows.{rows_order}
use Rattle.gd_match_laws.specs.Best.{page_of}
use Rattle.gd_match_laws.proofs.Bodies.{rows-owed, building-goes, then-prints}
use Rattle.gd_window.specs.Kept.{Kept}
use Rattle.gd_suspended_laws.specs.Standing.{rows_of, marks_of, page_rows, window_of}
use Rattle.gd_thaw_laws.proofs.Pages.{heavy_pages_end, heavy_pages_alike}

module _ (prims : List Primitive) (q : Asked) (order : ScanOrder) (dateline : ℕ) (with_cursor : Bool) (after : Option Mark) (w : Kept) (is : w ≡ window_of prims q after w.rows)
    (again : window prims q after (map (mark_row prims q.sort) (marks_of w)) ≡ rows_of w) where
  -- the page of the rows that are kept is that of their marks
  pub page_again : page_rows w ≡ page_of prims q after (marks_of w)
  page_again = ap (λ (v : Kept). take v.limit (rows_of w)) is ∙ ap (take q.limit) (sym again)

  -- what is still to be built
  left_is : q.count ≡ false → (s : Scan) → row_tried prims q s ++ row_candidates prims q s.iter.place (page_of prims q after (marks_of w)) ≡ owed_by prims (template_of q) (rows_order (page_rows w)) s
  left_is listed s = rows-owed prims q s (page_of prims q after (marks_of w)) listed ∙ ap (λ page. owed_by prims (template_of q) (rows_order page) s) (sym page_again)

  -- LAW: a run over the rows leaves the answer
  pub builds_on : q.count ≡ false → (weight : ℕ) (ts : Trees) (s m : Scan) (cs : List Candidate) → Runs prims (rows_order (page_rows w)) (template_of q) s cs m → list_any weighs_too_much cs ≡ false
      → body_answer prims q order dateline with_cursor after (marks_of w) (building weight ts s)
      ≡ body_answer prims q order dateline with_cursor after (marks_of w) (building (weight + built_weight cs) (append ts (trees_of (built_trees cs))) m)
  builds_on listed weight ts s m cs run light =
      building-goes prims q dateline with_cursor after (marks_of w) weight ts s m cs listed (subst (λ page. Runs prims (rows_order page) (template_of q) s cs m) page_again run) light

  -- LAW: where a row that is left weighs too much, the answer says so
  pub builds_heavy : q.count ≡ false → (weight : ℕ) (ts : Trees) (s : Scan) → list_any weighs_too_much (owed_by prims (template_of q) (rows_order (page_rows w)) s) ≡ true
      → body_answer prims q order dateline with_cursor after (marks_of w) (building weight ts s) ≡ Err (too_wide (max_candidate_weight + 1))
  builds_heavy listed weight ts s heavy =
      ap build_answer (left_is listed s)
      ∙ ap (λ b. if b then Err (too_wide (max_candidate_weight + 1)) else paged (owed_by prims (template_of q) (rows_order (page_rows w)) s)) heavy
    where
      paged : List Candidate → Answer
      paged built = page_of_rows prims q dateline with_cursor (length (window prims q after (map (mark_row prims q.sort) (marks_of w)))) (page_of prims q after (marks_of w)) (weight + built_weight built) (list_of ts ++ built_trees built) []

      build_answer : List Candidate → Answer
      build_answer built = if list_any weighs_too_much built then Err (too_wide (max_candidate_weight + 1)) else paged built

  -- LAW: once those that were built weigh too much together, it does not matter what they are
  pub builds_alike : q.count ≡ false → (weight other : ℕ) (ts us : Trees) (s : Scan) → nat_lt max_page_weight weight ≡ true → nat_lt max_page_weight other ≡ true
      → body_answer prims q order dateline with_cursor after (marks_of w) (building weight ts s) ≡ body_answer prims q order dateline with_cursor after (marks_of w) (building other us s)
  builds_alike listed weight other ts us s heavy also = heavy_pages_alike prims q order dateline with_cursor after (marks_of w) weight other ts us s listed heavy also

  -- LAW: and where no row is left, the answer says so
  pub builds_wide : q.count ≡ false → (weight : ℕ) (ts : Trees) (s : Scan) → AtEnd prims (rows_order (page_rows w)) (template_of q) s → nat_lt max_page_weight weight ≡ true
      → body_answer prims q order dateline with_cursor after (marks_of w) (building weight ts s) ≡ Err (too_wide (max_page_weight + 1))
  builds_wide listed weight ts s end heavy =
      heavy_pages_end prims q order dateline with_cursor after (marks_of w) weight ts s listed (subst (λ page. AtEnd prims (rows_order page) (template_of q) s) page_again end) heavy

  owes_nothing : (s : Scan) → AtEnd prims (rows_order (page_rows w)) (template_of q) s → owed_by prims (template_of q) (rows_order (page_rows w)) s ≡ []
  owes_nothing s end =
      ap (λ fs. tried prims (template_of q) s.weight fs ++ map (λ c. candidate prims (template_of q) c.1) (order_from prims (template_of q) (rows_order (page_rows w)) s.iter.place)) end.frames
      ∙ ap (map (λ c. candidate prims (template_of q) c.1)) end.places

  -- LAW: else the trees are printed
  pub builds_print : q.count ≡ false → (weight : ℕ) (ts : Trees) (s : Scan) → AtEnd prims (rows_order (page_rows w)) (template_of q) s → nat_lt max_page_weight weight ≡ false
      → body_answer prims q order dateline with_cursor after (marks_of w) (building weight ts s) ≡ body_answer prims q order dateline with_cursor after (marks_of w) (printing 0 ts [])
  builds_print listed weight ts s end light =
      then-prints prims q dateline with_cursor after (marks_of w) weight 0 ts s (left_is listed s ∙ owes_nothing s end) (ap (λ c. not c && nat_lt max_page_weight weight) listed ∙ light)

  -- ---- printing

  abbrev print_answer : List Tree → List Walk → Bool → List Row → Answer
  print_answer ts walks heavy rows = if heavy then Err (too_wide (max_page_weight + 1))
      else if q.single && nat_lt 1 (length rows) then Err (refused_at (codes "NotUnique") [])
      else page_answer (if with_cursor then Some (page_cursor dateline (take q.limit rows) (nat_lt q.limit (length rows))) else None)
      (if q.count then Ok (count_json (length (take q.limit rows))) else page_shape prims q ts walks)

  prints_answer : (n : ℕ) (ts : Trees) (walks : List Walk) → body_answer prims q order dateline with_cursor after (marks_of w) (printing n ts walks) ≡ print_answer (list_of ts) walks false (rows_of w)
  prints_answer n ts walks =
      ap (λ b. print_answer (list_of ts) walks b (window prims q after (map (mark_row prims q.sort) (marks_of w)))) (by q.count)
      ∙ ap (print_answer (list_of ts) walks false) again
    where
      by : (c : Bool) → (not c && nat_lt max_page_weight 0) ≡ false
      by true = refl
      by false = refl

  -- LAW: where more than one row was found and one is asked, the answer says so
  pub prints_many : (n : ℕ) (ts : Trees) (walks : List Walk) → is_ambiguous q.single (length (rows_of w)) ≡ true
      → body_answer prims q order dateline with_cursor after (marks_of w) (printing n ts walks) ≡ Err (refused_at (codes "NotUnique") [])
  prints_many n ts walks many =
      prints_answer n ts walks
      ∙ ap (λ b. if b then Err (refused_at (codes "NotUnique") [])
      else page_answer (if with_cursor then Some (page_cursor dateline (take q.limit (rows_of w)) (nat_lt q.limit (length (rows_of w)))) else None)
      (if q.count then Ok (count_json (length (take q.limit (rows_of w)))) else page_shape prims q (list_of ts) walks)) many

  -- LAW: else the answer is that of the page
  pub prints_page : (n : ℕ) (ts : Trees) (walks : List Walk) → is_ambiguous q.single (length (rows_of w)) ≡ false
      → body_answer prims q order dateline with_cursor after (marks_of w) (printing n ts walks)
      ≡ page_answer (if with_cursor then Some (page_cursor dateline (page_rows w) (nat_lt w.limit (length (rows_of w)))) else None)
      (if q.count then Ok (count_json (length (page_rows w))) else page_shape prims q (list_of ts) walks)
  prints_page n ts walks one =
      prints_answer n ts walks
      ∙ ap (λ b. if b then Err (refused_at (codes "NotUnique") []) else by_limit q.limit) one
      ∙ ap by_limit (ap (λ (v : Kept). v.limit) (sym is))
    where
      by_limit : ℕ → Answer
      by_limit n = page_answer (if with_cursor then Some (page_cursor dateline (take n (rows_of w)) (nat_lt n (length (rows_of w)))) else None)
          (if q.count then Ok (count_json (length (take n (rows_of w)))) else page_shape prims q (list_of ts) walks)

module _ (prims : List Primitive) (q : Asked) (order : ScanOrder) (dateline : ℕ) (with_cursor : Bool) (after : Option Mark) (kept : List Mark) where
  -- LAW: of a count no tree is built, wherever a reading stands that builds
  pub counts_alike : q.count ≡ true → (weight n : ℕ) (ts us : Trees) (walks : List Walk) (s : Scan)
      → body_answer prims q order dateline with_cursor after kept (building weight ts s) ≡ body_answer prims q order dateline with_cursor after kept (printing n us walks)
  counts_alike counts weight n ts us walks s = rw counts refl
