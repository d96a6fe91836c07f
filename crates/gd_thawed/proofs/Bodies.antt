-- Bodies that fit a query with so many rows, and how many rows a window keeps.
use Rattle.std.proofs.Common.{◌≡◌, ◌∙◌, refl, sym, ap, subst, arith, ◌==◌, ℕ, zero, suc, ◌+◌, ◌≤◌, List, [], ◌∷◌, ◌++◌, Bool, true, false, ◌&&◌, not, Option, None, length, length-append, map, take}
use Rattle.std.specs.Prelude.{nat_le, if◌then◌else◌}
use Rattle.std.specs.List.{list_all}
use Rattle.std.proofs.lemmas.Bool.{and_parts, and_from, le-leb, leb-true}
use Rattle.std.proofs.lemmas.Bool.Decides.{nat_tests}
use Rattle.std.proofs.lemmas.List.{append-nil}
use Rattle.std.proofs.lemmas.List.Folds.{list_all-append}
use Rattle.gd_prim.specs.declared.Primitive.{Primitive}
use Rattle.gd_tree.specs.Trees as trees
use Rattle.gd_tree.specs.Trees.{Trees, no_trees, append, list_of, trees_of, trees_count}
use Rattle.gd_defs.specs.Asked.{Asked}
use Rattle.gd_defs.specs.Plan.{template_of}
use Rattle.gd_defs.specs.Reply.{Mark, mark_row, row_mark}
use Rattle.gd_defs.specs.Rows.{Row}
use Rattle.gd_bytes.specs.Frozen.{Scan, Walk, building, printing}
use Rattle.gd_runs.specs.Fitting.{trees_fit, tried_count, body_fits}
use Rattle.gd_runs.specs.Owed.{Candidate, tree_fits}
use Rattle.gd_runs.specs.Shape.Ids.{page_ids}
use Rattle.gd_runs.specs.Thawed.{window, built_trees}
use Rattle.gd_scan_laws.specs.Ordered.{start}
use Rattle.gd_match_laws.specs.Moves.{Runs, stays}
use Rattle.gd_match_laws.specs.Rows.{rows_order}
use Rattle.gd_window.specs.Kept.{Kept, HasSeen}
use Rattle.gd_suspended_laws.specs.Standing.{rows_of, marks_of, page_rows, window_of}
use Rattle.gd_suspended_laws.proofs.Going.{length-map}
use Rattle.gd_suspended_laws.proofs.Windows.{window_few}
use Rattle.gd_thaw_laws.specs.Gone.{RowsTold, HasGone, read_rows}
use Rattle.gd_thaw_laws.specs.Told.{told, StandsInPlace}
use Rattle.gd_thaw_laws.specs.Spelled.{one_member}
use Rattle.gd_thaw_laws.proofs.Telling.{builds_told_fit}
use Rattle.gd_thaw_laws.proofs.Gone.{gone_keeps}

fewer_taken : {A : Type 0} (n : ℕ) (xs : List A) → length (take n xs) ≤ length xs
fewer_taken zero xs = omega arith
fewer_taken (suc n) [] = omega arith
fewer_taken (suc n) (x ∷ xs) = let rest = fewer_taken n xs in omega (arith, rest)

-- LAW: a page has no more rows than its window keeps
pub page_few : (w : Kept) → length (page_rows w) ≤ length (marks_of w)
page_few w = let less = fewer_taken w.limit (rows_of w) in let same = length-map row_mark (rows_of w) in omega (arith, less, same)

-- LAW: a window keeps no more rows than were offered
pub kept_few : RowsTold → (prims : List Primitive) (q : Asked) (after : Option Mark) (kept : List Mark) (w : Kept) → w ≡ window_of prims q after w.rows → HasSeen w (read_rows prims q kept) → length (page_rows w) ≤ length kept
kept_few law prims q after kept w is seen =
    let rows = window prims q after (map (mark_row prims q.sort) kept ++ []) in
    let best = ap length (gone_keeps law prims q after [] kept start start w begun) in
    let marks = length-map row_mark (take (suc q.limit) rows) in
    let taken = fewer_taken (suc q.limit) rows in
    let few = window_few prims q after (map (mark_row prims q.sort) kept ++ []) in
    let whole = ap length (append-nil (map (mark_row prims q.sort) kept)) in
    let each = length-map (mark_row prims q.sort) kept in
    let page = page_few w in
    omega (arith, best, marks, taken, few, whole, each, page)
  where
    begun : HasGone prims q after [] kept start start w
    begun = record { given = []; runs = stays start; light = refl; is = is; seen = subst (HasSeen w) (sym (append-nil (read_rows prims q kept))) seen }

module _ (prims : List Primitive) (q : Asked) (rows : ℕ) where
  -- LAW: no trees fit
  pub none_fit : trees_fit prims q rows no_trees ≡ true
  none_fit = by q.count
    where
      by : (c : Bool) → (true && (if c then true else nat_le 0 rows)) ≡ true
      by true = refl
      by false = le-leb 0 rows (omega arith)

  -- LAW: a reading that begins to build fits
  pub start_builds : body_fits prims one_member q rows (building 0 no_trees start) ≡ true
  start_builds = and_from _ _ (and_from _ _ (and_from _ _ (and_from _ _ none_fit (le-leb 0 rows (omega arith))) refl) refl) (le-leb 0 0 (omega arith))

  print_begun : (ts : Trees) → trees_fit prims q rows ts ≡ true → body_fits prims one_member q rows (printing 0 ts []) ≡ true
  print_begun ts fit = and_from _ _ (and_from _ _ (and_from _ _ fit refl) (le-leb 0 (trees_count ts) (omega arith))) (le-leb 0 (page_ids prims q (list_of ts)) (omega arith))

  -- LAW: a reading that prints a count fits
  pub count_prints : body_fits prims one_member q rows (printing 0 no_trees []) ≡ true
  count_prints = print_begun no_trees none_fit

  -- LAW: what was built may be printed
  pub built_prints : (weight : ℕ) (ts : Trees) (s : Scan) → body_fits prims one_member q rows (building weight ts s) ≡ true → body_fits prims one_member q rows (printing 0 ts []) ≡ true
  built_prints weight ts s fit = print_begun ts (and_parts _ _ (and_parts _ _ (and_parts _ _ (and_parts _ _ fit).0).0).0).0

  -- LAW: a page of which more places were length-map fits, up to those of its trees
  pub printed_fits : (m n : ℕ) (ts : Trees) (ws : List Walk) → body_fits prims one_member q rows (printing m ts ws) ≡ true → n ≤ trees_count ts → body_fits prims one_member q rows (printing n ts ws) ≡ true
  printed_fits m n ts ws fit few =
      let parts = and_parts _ _ fit in
      and_from _ _ (and_from _ _ (and_parts _ _ parts.0).0 (le-leb n (trees_count ts) few)) parts.1

  -- LAW: with fewer trees a reading that builds fits, whatever they weigh
  pub fewer_fit : (v u : ℕ) (ts us : Trees) (s : Scan) → body_fits prims one_member q rows (building v (append ts us) s) ≡ true → body_fits prims one_member q rows (building u ts s) ≡ true
  fewer_fit v u ts us s fit =
      let whole = and_parts _ _ fit in
      let one = and_parts _ _ whole.0 in
      let two = and_parts _ _ one.0 in
      let three = and_parts _ _ two.0 in
      let four = and_parts _ _ three.0 in
      and_from _ _
      (and_from _ _ (and_from _ _ (and_from _ _ (and_from _ _ (front four.0) (counts q.count four.1)) three.1) two.1) one.1)
      (le-leb (length (list_of ts) + tried_count s.frames) s.iter.place (before_it (leb-true (length (list_of (append ts us)) + tried_count s.frames) s.iter.place whole.1)))
    where
      both : (xs : Trees) → list_of (append xs us) ≡ list_of xs ++ list_of us
      both no_trees = refl
      both (trees.and_tree x xs) = ap (λ l. x ∷ l) (both xs)

      fewer : length (list_of ts) ≤ length (list_of (append ts us))
      fewer = let same = ap length (both ts) in let sum = length-append (list_of ts) (list_of us) in omega (arith, same, sum)

      front : list_all (tree_fits prims (template_of q)) (list_of (append ts us)) ≡ true → list_all (tree_fits prims (template_of q)) (list_of ts) ≡ true
      front all = (and_parts _ _ (sym (list_all-append (tree_fits prims (template_of q)) (list_of ts) (list_of us)) ∙ ap (list_all (tree_fits prims (template_of q))) (sym (both ts)) ∙ all)).0

      counts : (c : Bool) → (if c then length (list_of (append ts us)) == 0 else nat_le (length (list_of (append ts us))) rows) ≡ true → (if c then length (list_of ts) == 0 else nat_le (length (list_of ts)) rows) ≡ true
      counts true none = no_more (length (list_of ts)) (length (list_of (append ts us))) fewer none
        where
          no_more : (a b : ℕ) → a ≤ b → (b == 0) ≡ true → (a == 0) ≡ true
          no_more a b less is = grind (arith, nat_tests)
      counts false few = le-leb (length (list_of ts)) rows (let most = leb-true (length (list_of (append ts us))) rows few in let less = fewer in omega (arith, most, less))

      before_it : length (list_of (append ts us)) + tried_count s.frames ≤ s.iter.place → length (list_of ts) + tried_count s.frames ≤ s.iter.place
      before_it most = let less = fewer in omega (arith, most, less)

  -- LAW: what a reading that builds is told as fits, with trees that were there and some of those that were given
  pub told_fit : (page : List Row) (v : ℕ) (first built later : Trees) (s m : Scan) (cs : List Candidate) → q.count ≡ false → body_fits prims one_member q rows (building 0 first s) ≡ true → Runs prims (rows_order page) (template_of q) s cs m
      → append built later ≡ append first (trees_of (built_trees cs)) → StandsInPlace prims (rows_order page) (template_of q) m → s.iter.place ≤ m.iter.place → m.iter.place ≤ rows
      → body_fits prims one_member q rows (building v built (told (template_of q) m)) ≡ true
  told_fit page v first built later s m cs listed fit run same placed onward within =
      fewer_fit 0 v built later (told (template_of q) m)
      (subst (λ us. body_fits prims one_member q rows (building 0 us (told (template_of q) m)) ≡ true) (sym same)
      (builds_told_fit prims q page rows 0 0 first s m cs listed fit run placed onward within))
