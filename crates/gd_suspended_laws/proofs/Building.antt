-- A reading that builds the trees of its rows, and then prints them, owes the answer that it owed when its scan ended.
use Rattle.std.proofs.Common.{◌≡◌, inl, inr, ℕ, ◌+◌, List, [], ◌∷◌, ◌++◌, Bool, true, false, ◌&&◌, ◌||◌, not, Option, None, Some, Ok, length, take, drop, map, refl, ap, sym, subst, ◌∙◌, arith, Err}
use Rattle.std.specs.Prelude.{filter, nat_lt, option_map, if◌then◌else◌, codes}
use Rattle.std.specs.List.{list_any, cons_option, enumerate_from}
use Rattle.std.proofs.lemmas.Bool.{lt-ltb, ltb-true}
use Rattle.std.proofs.lemmas.List.{append-nil}
use Rattle.gd_prim.specs.declared.Primitive.{Primitive}
use Rattle.gd_tree.specs.Trees.{Tree, Trees, no_trees, append, trees_of, list_of, place_of}
use Rattle.gd_defs.specs.Asked.{Asked}
use Rattle.gd_defs.specs.Lines.{too_wide, refused_at, count_json}
use Rattle.gd_defs.specs.Plan.{template_of}
use Rattle.gd_defs.specs.Reply.{Mark, mark_row, row_mark, page_cursor, is_ambiguous, max_candidate_weight, max_page_weight, Answer, page_answer}
use Rattle.gd_defs.specs.Rows.{row_of}
use Rattle.gd_defs.specs.Rows as defs
use Rattle.gd_defs.specs.Template.{Template, is_answer, passes_template, tree_of}
use Rattle.gd_bytes.specs.Frozen.{Scan, scanning, building, printing}
use Rattle.gd_runs.specs.Owed.{ScanOrder, Candidate, candidate, tried, owed_by, weighs_too_much}
use Rattle.gd_runs.specs.Shape.{page_shape}
use Rattle.gd_runs.specs.Thawed.{window, answering, built_trees, built_weight, page_of_rows, row_candidates, row_tried, body_answer}
use Rattle.gd_order_laws.specs.Window.{In}
use Rattle.gd_order_laws.proofs.Rows.{In-map}
use Rattle.gd_order_laws.proofs.Sorted.{Each-from_members, In-filter}
use Rattle.gd_match_laws.proofs.PassedOn.{place_of-tree, none_any, In-take, any_map, owed_first}
use Rattle.gd_match_laws.specs.PassedOn.{start, scanned}
use Rattle.gd_match_laws.specs.Moves.{order_from, Runs}
use Rattle.gd_match_laws.specs.Laws.{AtEnd}
use Rattle.gd_match_laws.specs.Rows.{rows_order}
use Rattle.gd_match_laws.proofs.Bodies.{rows-owed, kept_page, building-goes, then-prints}
use Rattle.gd_window.specs.Kept.{Kept}
use Rattle.gd_window.specs.Laws.{RowsBehindAreAsDefined}
use Rattle.gd_suspended_laws.specs.Standing.{rows_of, marks_of, page_rows, IsOrderOf, HasScanned, IsKept}
use Rattle.gd_suspended_laws.proofs.Page.{page_once, page_placed}
use Rattle.gd_suspended_laws.proofs.Scanning.{given_all, answers_apart, answers_placed}
use Rattle.gd_suspended_laws.proofs.Windows.{best_of, best_known, best_again, keeps_best}

-- ---- lists

pub any_none : {A : Type 0} (f : A → Bool) (xs : List A) (x : A) → list_any f xs ≡ false → In x xs → f x ≡ false
any_none f [] x none here = absurd here
any_none f (y ∷ ys) x none (inl same) = subst (λ z. f z ≡ false) same (first_off (f y) (list_any f ys) none)
  where
    first_off : (a b : Bool) → (a || b) ≡ false → a ≡ false
    first_off true b is = is
    first_off false b is = refl
any_none f (y ∷ ys) x none (inr there) = any_none f ys x (second_off (f y) (list_any f ys) none) there
  where
    second_off : (a b : Bool) → (a || b) ≡ false → b ≡ false
    second_off true b is = absurd (let e : true ≡ false = is in cc)
    second_off false b is = is

in_first : {A : Type 0} (xs ys : List A) (x : A) → In x xs → In x (xs ++ ys)
in_first [] ys x here = absurd here
in_first (y ∷ xs) ys x (inl same) = inl same
in_first (y ∷ xs) ys x (inr there) = inr (in_first xs ys x there)

pub numbered : (n : ℕ) (xs : List ℕ) → map (λ c. c.1) (enumerate_from n xs) ≡ xs
numbered n [] = refl
numbered n (x ∷ xs) = ap (λ l. x ∷ l) (numbered (n + 1) xs)

-- ---- candidates that answer

in_answering : (cs : List Candidate) (p : ℕ) → In p (answering cs) → (c : Candidate) × In c cs × (option_map place_of c.answer ≡ Some p)
in_answering [] p here = absurd here
in_answering (c ∷ cs) p here = by (option_map place_of c.answer) refl here (in_answering cs p)
  where
    by : (o : Option ℕ) → option_map place_of c.answer ≡ o → In p (cons_option o (answering cs)) → (In p (answering cs) → (d : Candidate) × In d cs × (option_map place_of d.answer ≡ Some p))
        → (d : Candidate) × In d (c ∷ cs) × (option_map place_of d.answer ≡ Some p)
    by None is there rest = let found = rest there in (found.0, inr found.1, found.2)
    by (Some x) is (inl same) rest = (c, inl refl, is ∙ ap Some same)
    by (Some x) is (inr there) rest = let found = rest there in (found.0, inr found.1, found.2)

its_place : (prims : List Primitive) (t : Template) (x p : ℕ) → option_map place_of (candidate prims t x).answer ≡ Some p → x ≡ p
its_place prims t x p is = by (is_answer prims t x) is
  where
    same : (a b : ℕ) → Some a ≡ Some b → a ≡ b
    same a b e = cc

    by : (b : Bool) → option_map place_of (if b then Some (tree_of prims t x) else None) ≡ Some p → x ≡ p
    by true e = sym (place_of-tree prims t x) ∙ same (place_of (tree_of prims t x)) p e
    by false e = absurd (let none : None ≡ Some p = e in cc)

module _ (prims : List Primitive) (q : Asked) (after : Option Mark) where
  -- ---- the rows that a scan keeps

  row_light : (order : ScanOrder) (s : Scan) (w : Kept) → (has : HasScanned prims q after order s w) → (p : ℕ) → In p (answering has.given) → weighs_too_much (candidate prims (template_of q) p) ≡ false
  row_light order s w has p here =
      let found = in_answering has.given p here in
      let among = subst (In found.0) (given_all prims q order has.given s has.runs) (in_first has.given (owed_by prims (template_of q) order s) found.0 found.1) in
      let from = In-map (candidate prims (template_of q)) (scanned prims q order) found.0 among in
      let place : from.0 ≡ p = its_place prims (template_of q) from.0 p (ap (λ (c : Candidate). option_map place_of c.answer) from.2 ∙ found.2) in
      subst (λ x. weighs_too_much (candidate prims (template_of q) x) ≡ false) place (ap weighs_too_much from.2 ∙ any_none weighs_too_much has.given found.0 has.light found.1)

  -- LAW: the rows that a scan keeps are read again from their marks, and none of the page weighs too much
  pub scan_keeps : RowsBehindAreAsDefined → (order : ScanOrder) (s : Scan) (w : Kept) → IsOrderOf prims q order → HasScanned prims q after order s w → IsKept prims q after w
  scan_keeps law order s w is has = record {
    is = has.is;
    again = ap (λ rows. window prims q after (map (mark_row prims q.sort) (map row_mark rows))) kept
        ∙ best_again prims q after (answering has.given) (answers_apart prims q order is has.given s has.runs) (answers_placed prims q order has.given s has.runs)
        ∙ sym kept;
    light = ap (list_any weighs_too_much) (owed_first prims (template_of q) (rows_order (page_rows w)))
        ∙ any_map weighs_too_much (candidate prims (template_of q)) passed
        ∙ none_any (λ p. weighs_too_much (candidate prims (template_of q) p)) passed (Each-from_members (λ p. weighs_too_much (candidate prims (template_of q) p) ≡ false) passed light_one);
    once = page_once prims q after w (answering has.given) kept (answers_apart prims q order is has.given s has.runs);
    placed = page_placed prims q after w (answering has.given) kept (answers_placed prims q order has.given s has.runs);
  }
    where
      kept : rows_of w ≡ best_of prims q after (answering has.given)
      kept = keeps_best prims q after law w (answering has.given) has.is has.seen

      passed : List ℕ
      passed = filter (passes_template prims (template_of q)) (map (λ c. c.1) (rows_order (page_rows w)))

      light_one : (p : ℕ) → In p passed → weighs_too_much (candidate prims (template_of q) p) ≡ false
      light_one p here =
          let listed = subst (In p) (numbered 0 (map (λ (r : defs.Row). r.object) (page_rows w))) (In-filter (passes_template prims (template_of q)) (map (λ c. c.1) (rows_order (page_rows w))) p here).0 in
          let row = In-map (λ (r : defs.Row). r.object) (page_rows w) p listed in
          let best = subst (In row.0) kept (In-take w.limit (rows_of w) row.0 row.1) in
          let from = best_known prims q after (answering has.given) row.0 best in
          subst (λ x. weighs_too_much (candidate prims (template_of q) x) ≡ false) (ap (λ (r : defs.Row). r.object) from.2 ∙ row.2) (row_light order s w has from.0 from.1)

  -- the page of the rows that are kept is that of their marks
  page_again : (dateline : ℕ) (with_cursor : Bool) (w : Kept) → IsKept prims q after w → page_rows w ≡ kept_page prims q dateline with_cursor after (marks_of w)
  page_again dateline with_cursor w keeps = ap (λ (v : Kept). take v.limit (rows_of w)) keeps.is ∙ ap (take q.limit) (sym keeps.again)

  owes_nothing : (order : ScanOrder) (s : Scan) → AtEnd prims order (template_of q) s → owed_by prims (template_of q) order s ≡ []
  owes_nothing order s end =
      ap (λ fs. tried prims (template_of q) s.weight fs ++ map (λ c. candidate prims (template_of q) c.1) (order_from prims (template_of q) order s.iter.place)) end.frames
      ∙ ap (map (λ c. candidate prims (template_of q) c.1)) end.places

  module _ (order : ScanOrder) (dateline : ℕ) (with_cursor : Bool) where
    -- the answer of a reading that builds trees, by what is still to be built
    abbrev build_answer : List Mark → ℕ → List Tree → List Candidate → Answer
    build_answer kept w ts built = if list_any weighs_too_much built then Err (too_wide (max_candidate_weight + 1))
        else page_of_rows prims q dateline with_cursor (length (window prims q after (map (mark_row prims q.sort) kept))) (kept_page prims q dateline with_cursor after kept) (w + built_weight built) (ts ++ built_trees built) []

    abbrev seen_answer : List Candidate → List defs.Row → Answer
    seen_answer owed rows =
        if list_any weighs_too_much (owed ++ row_candidates prims q 0 (take q.limit rows)) then Err (too_wide (max_candidate_weight + 1))
        else page_of_rows prims q dateline with_cursor (length rows) (take q.limit rows) (built_weight (row_candidates prims q 0 (take q.limit rows))) (built_trees (row_candidates prims q 0 (take q.limit rows))) []

    -- LAW: where no candidate is left, the trees of the rows that are kept are built
    pub builds_then : (kept : List Mark) (s : Scan) → AtEnd prims order (template_of q) s
        → body_answer prims q order dateline with_cursor after kept (scanning s) ≡ body_answer prims q order dateline with_cursor after kept (building 0 no_trees start)
    builds_then kept s end =
        ap (λ owed. seen_answer owed (window prims q after (map (mark_row prims q.sort) kept ++ map (row_of prims q.sort 0) (answering owed)))) (owes_nothing order s end)
        ∙ ap (λ l. seen_answer [] (window prims q after l)) (append-nil (map (mark_row prims q.sort) kept))
        ∙ ap (λ n. if list_any weighs_too_much rows then Err (too_wide (max_candidate_weight + 1)) else page_of_rows prims q dateline with_cursor (length (window prims q after (map (mark_row prims q.sort) kept))) (kept_page prims q dateline with_cursor after kept) n (built_trees rows) []) (from-none (built_weight rows))
        ∙ ap (build_answer kept 0 []) (by q.count)
      where
        rows : List Candidate
        rows = row_candidates prims q 0 (kept_page prims q dateline with_cursor after kept)

        from-none : (n : ℕ) → n ≡ 0 + n
        from-none n = omega arith

        by : (c : Bool) → rows ≡ (if c then [] else []) ++ rows
        by true = refl
        by false = refl

    module _ (w : Kept) (keeps : IsKept prims q after w) where
      -- what is still to be built
      left_is : q.count ≡ false → (s : Scan) → row_tried prims q s ++ row_candidates prims q s.iter.place (kept_page prims q dateline with_cursor after (marks_of w)) ≡ owed_by prims (template_of q) (rows_order (page_rows w)) s
      left_is listed s = rows-owed prims q s (kept_page prims q dateline with_cursor after (marks_of w)) listed ∙ ap (λ page. owed_by prims (template_of q) (rows_order page) s) (sym (page_again dateline with_cursor w keeps))

      -- LAW: moves of a reading that builds trees leave its answer
      pub builds_go : q.count ≡ false → (weight : ℕ) (ts : Trees) (s m : Scan) (cs : List Candidate)
          → Runs prims (rows_order (page_rows w)) (template_of q) s cs m → list_any weighs_too_much cs ≡ false
          → body_answer prims q order dateline with_cursor after (marks_of w) (building weight ts s)
          ≡ body_answer prims q order dateline with_cursor after (marks_of w) (building (weight + built_weight cs) (append ts (trees_of (built_trees cs))) m)
      builds_go listed weight ts s m cs run light =
          building-goes prims q dateline with_cursor after (marks_of w) weight ts s m cs listed
          (subst (λ page. Runs prims (rows_order page) (template_of q) s cs m) (page_again dateline with_cursor w keeps) run) light

      -- LAW: where a row that is left weighs too much, the answer says so
      pub heavy_builds : q.count ≡ false → (weight : ℕ) (ts : Trees) (s : Scan) → list_any weighs_too_much (owed_by prims (template_of q) (rows_order (page_rows w)) s) ≡ true
          → body_answer prims q order dateline with_cursor after (marks_of w) (building weight ts s) ≡ Err (too_wide (max_candidate_weight + 1))
      heavy_builds listed weight ts s heavy =
          ap (build_answer (marks_of w) weight (list_of ts)) (left_is listed s)
          ∙ ap (λ b. if b then Err (too_wide (max_candidate_weight + 1))
          else page_of_rows prims q dateline with_cursor (length (window prims q after (map (mark_row prims q.sort) (marks_of w)))) (kept_page prims q dateline with_cursor after (marks_of w)) (weight + built_weight left) (list_of ts ++ built_trees left) []) heavy
        where
          left : List Candidate
          left = owed_by prims (template_of q) (rows_order (page_rows w)) s

      -- LAW: where those that were built weigh too much together, the answer says so
      pub heavy_page : q.count ≡ false → (weight : ℕ) (ts : Trees) (s : Scan) → list_any weighs_too_much (owed_by prims (template_of q) (rows_order (page_rows w)) s) ≡ false → nat_lt max_page_weight weight ≡ true
          → body_answer prims q order dateline with_cursor after (marks_of w) (building weight ts s) ≡ Err (too_wide (max_page_weight + 1))
      heavy_page listed weight ts s light heavy =
          ap (build_answer (marks_of w) weight (list_of ts)) (left_is listed s)
          ∙ ap (λ b. if b then Err (too_wide (max_candidate_weight + 1))
          else page_of_rows prims q dateline with_cursor found (kept_page prims q dateline with_cursor after (marks_of w)) (weight + built_weight left) (list_of ts ++ built_trees left) []) light
          ∙ ap (λ b. if b then Err (too_wide (max_page_weight + 1)) else printed)
          (ap (λ c. not c && nat_lt max_page_weight (weight + built_weight left)) listed ∙ more (built_weight left))
        where
          left : List Candidate
          left = owed_by prims (template_of q) (rows_order (page_rows w)) s

          found : ℕ
          found = length (window prims q after (map (mark_row prims q.sort) (marks_of w)))

          more : (n : ℕ) → nat_lt max_page_weight (weight + n) ≡ true
          more n = lt-ltb max_page_weight (weight + n) (let over = ltb-true max_page_weight weight heavy in omega (arith, over))

          printed : Answer
          printed = if q.single && nat_lt 1 found then Err (refused_at (codes "NotUnique") [])
              else page_answer (if with_cursor then Some (page_cursor dateline (kept_page prims q dateline with_cursor after (marks_of w)) (nat_lt q.limit found)) else None)
              (if q.count then Ok (count_json (length (kept_page prims q dateline with_cursor after (marks_of w)))) else page_shape prims q (list_of ts ++ built_trees left) [])

      -- LAW: where no row is left, and the page does not weigh too much, its trees are printed
      pub prints_then : q.count ≡ false → (weight : ℕ) (ts : Trees) (s : Scan) → AtEnd prims (rows_order (page_rows w)) (template_of q) s → nat_lt max_page_weight weight ≡ false
          → body_answer prims q order dateline with_cursor after (marks_of w) (building weight ts s) ≡ body_answer prims q order dateline with_cursor after (marks_of w) (printing 0 ts [])
      prints_then listed weight ts s end light =
          then-prints prims q dateline with_cursor after (marks_of w) weight 0 ts s (left_is listed s ∙ owes_nothing (rows_order (page_rows w)) s end)
          (ap (λ c. not c && nat_lt max_page_weight weight) listed ∙ light)

      -- ---- the answer of a reading that prints, by the rows that it keeps

      abbrev print_answer : List Tree → Bool → List defs.Row → Answer
      print_answer ts heavy rows = if heavy then Err (too_wide (max_page_weight + 1))
          else if q.single && nat_lt 1 (length rows) then Err (refused_at (codes "NotUnique") [])
          else page_answer (if with_cursor then Some (page_cursor dateline (take q.limit rows) (nat_lt q.limit (length rows))) else None)
          (if q.count then Ok (count_json (length (take q.limit rows))) else page_shape prims q ts [])

      prints_answer : (ts : Trees) → body_answer prims q order dateline with_cursor after (marks_of w) (printing 0 ts []) ≡ print_answer (list_of ts) false (rows_of w)
      prints_answer ts =
          ap (λ b. print_answer (list_of ts) b (window prims q after (map (mark_row prims q.sort) (marks_of w)))) (by q.count)
          ∙ ap (print_answer (list_of ts) false) keeps.again
        where
          by : (c : Bool) → (not c && nat_lt max_page_weight 0) ≡ false
          by true = refl
          by false = refl

      -- LAW: where more than one row was found and one is asked, the answer says so
      pub many_refuse : (ts : Trees) → is_ambiguous q.single (length (rows_of w)) ≡ true
          → body_answer prims q order dateline with_cursor after (marks_of w) (printing 0 ts []) ≡ Err (refused_at (codes "NotUnique") [])
      many_refuse ts many =
          prints_answer ts
          ∙ ap (λ b. if b then Err (refused_at (codes "NotUnique") [])
          else page_answer (if with_cursor then Some (page_cursor dateline (take q.limit (rows_of w)) (nat_lt q.limit (length (rows_of w)))) else None)
          (if q.count then Ok (count_json (length (take q.limit (rows_of w)))) else page_shape prims q (list_of ts) [])) many

      -- LAW: else the answer is that of the page
      pub prints_owe : (ts : Trees) → is_ambiguous q.single (length (rows_of w)) ≡ false
          → body_answer prims q order dateline with_cursor after (marks_of w) (printing 0 ts [])
          ≡ page_answer (if with_cursor then Some (page_cursor dateline (page_rows w) (nat_lt w.limit (length (rows_of w)))) else None)
          (if q.count then Ok (count_json (length (page_rows w))) else page_shape prims q (list_of ts) [])
      prints_owe ts one =
          prints_answer ts
          ∙ ap (λ b. if b then Err (refused_at (codes "NotUnique") []) else by_limit q.limit) one
          ∙ ap by_limit (ap (λ (v : Kept). v.limit) (sym keeps.is))
        where
          by_limit : ℕ → Answer
          by_limit n = page_answer (if with_cursor then Some (page_cursor dateline (take n (rows_of w)) (nat_lt n (length (rows_of w)))) else None)
              (if q.count then Ok (count_json (length (take n (rows_of w)))) else page_shape prims q (list_of ts) [])

    -- LAW: of a count no tree is built
    pub counts_then : (kept : List Mark) → q.count ≡ true
        → body_answer prims q order dateline with_cursor after kept (building 0 no_trees start) ≡ body_answer prims q order dateline with_cursor after kept (printing 0 no_trees [])
    counts_then kept counts =
        then-prints prims q dateline with_cursor after kept 0 0 no_trees start nothing-built (ap (λ c. not c && nat_lt max_page_weight 0) counts)
      where
        nothing-built : row_tried prims q start ++ row_candidates prims q 0 (kept_page prims q dateline with_cursor after kept) ≡ []
        nothing-built = ap (λ b. (if b then [] else tried prims (template_of q) 0 []) ++ (if b then [] else map (candidate prims (template_of q)) (filter (passes_template prims (template_of q)) (map (λ (r : defs.Row). r.object) (drop 0 (kept_page prims q dateline with_cursor after kept)))))) counts
