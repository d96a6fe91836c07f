-- A whole reading: it scans, builds the trees of its rows, and prints what it owed at its start.
use Rattle.std.proofs.Common.{◌≡◌, ℕ, ◌+◌, ◌<◌, List, [], ◌∷◌, ◌++◌, Bool, true, false, ◌&&◌, not, Option, map, refl, ap, ◌∙◌, arith, length, Ok, Some, None, Err}
use Rattle.std.specs.Prelude.{nat_lt, filter, drop, if◌then◌else◌, codes}
use Rattle.std.specs.List.{list_any, enumerate_from}
use Rattle.std.specs.Ordering.{nat_cmp}
use Rattle.std.specs.declared.cmp.Ordering.TheVariants.{Less}
use Rattle.gd_prim.specs.declared.Primitive.{Primitive}
use Rattle.gd_tree.specs.Trees.{no_trees, trees_of, Trees, list_of}
use Rattle.gd_defs.specs.Asked.{Asked}
use Rattle.gd_defs.specs.Plan.{template_of}
use Rattle.gd_defs.specs.Reply.{Mark, row_mark, max_page_weight, mark_row, page_cursor, page_answer}
use Rattle.gd_defs.specs.Rows.{Row}
use Rattle.gd_defs.specs.Template.{passes_template}
use Rattle.gd_scan_laws.specs.PassedOn.{Scan, scanning, printing, Walk, Candidate, tried, candidate, candidates_from, owed_by, weighs_too_much, scan_order, built_trees, built_weight, row_candidates, row_tried, body_answer, window, Each, Rising}
use Rattle.gd_scan_laws.proofs.PassedOn.{nat_less}
use Rattle.gd_scan_laws.specs.Ordered.{start}
use Rattle.gd_scan_laws.proofs.Rising.{scan_rises}
use Rattle.gd_defs.specs.Lines.{too_wide, refused_at, count_json}
use Rattle.gd_match_laws.specs.Walks.{Tell, rows_listed}
use Rattle.gd_match_laws.proofs.Walks.{walks-print}
use Rattle.gd_match_laws.specs.Moves.{order_from, Runs}
use Rattle.gd_match_laws.specs.Rows.{rows_order}
use Rattle.gd_match_laws.proofs.Bodies.{rows-owed, kept_page, building-goes, then-builds, then-prints}
use Rattle.gd_match_laws.proofs.Reached.{start-to-end}
use Rattle.gd_match_laws.proofs.Suspended.{best_rows, suspended}

numbers-rise : (n : ℕ) (xs : List ℕ) → Rising nat_cmp (map (λ c. c.0) (enumerate_from n xs))
numbers-rise n [] = tt
numbers-rise n (x ∷ xs) = (above (n + 1) xs (omega arith), numbers-rise (n + 1) xs)
  where
    above : (m : ℕ) (ys : List ℕ) → n < m → Each (λ j. nat_cmp n j ≡ Less) (map (λ c. c.0) (enumerate_from m ys))
    above m [] less = tt
    above m (y ∷ ys) less = (nat_less n m less, above (m + 1) ys (omega (arith, less)))

-- the order of the rows of a page rises
pub rows-rise : (page : List Row) → Rising nat_cmp (map (λ c. c.0) (rows_order page))
rows-rise page = numbers-rise 0 (map (λ r. r.object) page)

module _ (prims : List Primitive) (q : Asked) (dateline : ℕ) (with_cursor : Bool) (after : Option Mark) where
  -- a scan with no frames and no place left owes nothing
  owes-nothing : (order : List (ℕ × ℕ)) (e : Scan) → e.frames ≡ [] → order_from prims (template_of q) order e.iter.place ≡ [] → owed_by prims (template_of q) order e ≡ []
  owes-nothing order e none ended =
      ap (λ fs. tried prims (template_of q) e.weight fs ++ map (λ c. candidate prims (template_of q) c.1) (order_from prims (template_of q) order e.iter.place)) none
      ∙ ap (map (λ c. candidate prims (template_of q) c.1)) ended

  -- LAW: a reading that scans to its end, builds the trees of the best rows and then prints them, none weighing too much, prints what it owed at its start
  pub whole-reading : (cs ds : List Candidate) (m e : Scan) (n : ℕ) → 0 < q.limit → q.count ≡ false
      → Runs prims (scan_order prims q) (template_of q) start cs m → m.frames ≡ [] → order_from prims (template_of q) (scan_order prims q) m.iter.place ≡ [] → list_any weighs_too_much cs ≡ false
      → Runs prims (rows_order (kept_page prims q dateline with_cursor after (map row_mark (best_rows prims q after cs)))) (template_of q) start ds e → e.frames ≡ []
      → order_from prims (template_of q) (rows_order (kept_page prims q dateline with_cursor after (map row_mark (best_rows prims q after cs)))) e.iter.place ≡ [] → list_any weighs_too_much ds ≡ false
      → nat_lt max_page_weight (built_weight ds) ≡ false
      → body_answer prims q (scan_order prims q) dateline with_cursor after [] (scanning start) ≡ body_answer prims q (scan_order prims q) dateline with_cursor after (map row_mark (best_rows prims q after cs)) (printing n (trees_of (built_trees ds)) [])
  whole-reading cs ds m e n some listed scans no-frames ended light builds none-tried rows-ended rows-light page-light =
      suspended prims q dateline with_cursor after cs m some scans light
      ∙ then-builds prims q dateline with_cursor after kept m start (owes-nothing (scan_order prims q) m no-frames ended) refl refl
      ∙ building-goes prims q dateline with_cursor after kept 0 no_trees start e ds listed builds rows-light
      ∙ then-prints prims q dateline with_cursor after kept (0 + built_weight ds) n (trees_of (built_trees ds)) e
      (rows-owed prims q e (kept_page prims q dateline with_cursor after kept) listed ∙ owes-nothing (rows_order (kept_page prims q dateline with_cursor after kept)) e none-tried rows-ended)
      (ap (λ c. not c && nat_lt max_page_weight (0 + built_weight ds)) listed ∙ ap (nat_lt max_page_weight) (nothing-more (built_weight ds)) ∙ page-light)
    where
      kept : List Mark
      kept = map row_mark (best_rows prims q after cs)

      nothing-more : (w : ℕ) → 0 + w ≡ w
      nothing-more w = omega arith

  -- LAW: of a count no tree is built
  pub whole-count : (cs : List Candidate) (m : Scan) (n : ℕ) → 0 < q.limit → q.count ≡ true → Runs prims (scan_order prims q) (template_of q) start cs m → m.frames ≡ []
      → order_from prims (template_of q) (scan_order prims q) m.iter.place ≡ [] → list_any weighs_too_much cs ≡ false
      → body_answer prims q (scan_order prims q) dateline with_cursor after [] (scanning start) ≡ body_answer prims q (scan_order prims q) dateline with_cursor after (map row_mark (best_rows prims q after cs)) (printing n no_trees [])
  whole-count cs m n some counts scans no-frames ended light =
      suspended prims q dateline with_cursor after cs m some scans light
      ∙ then-builds prims q dateline with_cursor after kept m start (owes-nothing (scan_order prims q) m no-frames ended) refl refl
      ∙ then-prints prims q dateline with_cursor after kept 0 n no_trees start nothing-built (ap (λ c. not c && nat_lt max_page_weight 0) counts)
    where
      kept : List Mark
      kept = map row_mark (best_rows prims q after cs)

      nothing-built : row_tried prims q start ++ row_candidates prims q 0 (kept_page prims q dateline with_cursor after kept) ≡ []
      nothing-built = ap (λ b. (if b then [] else tried prims (template_of q) 0 []) ++ (if b then [] else map (candidate prims (template_of q)) (filter (passes_template prims (template_of q)) (map (λ (r : Row). r.object) (drop 0 (kept_page prims q dateline with_cursor after kept)))))) counts

  -- LAW: such a reading there is: by moves alone the answer of a reading at its start comes to be printed, where nothing weighs too much
  pub reading-prints : (n : ℕ) → 0 < q.limit → q.count ≡ false → list_any weighs_too_much (candidates_from prims (template_of q) (scan_order prims q) 0) ≡ false
      → (let rows = rows_order (kept_page prims q dateline with_cursor after (map row_mark (best_rows prims q after (candidates_from prims (template_of q) (scan_order prims q) 0)))) in
      list_any weighs_too_much (candidates_from prims (template_of q) rows 0) ≡ false → nat_lt max_page_weight (built_weight (candidates_from prims (template_of q) rows 0)) ≡ false
      → body_answer prims q (scan_order prims q) dateline with_cursor after [] (scanning start)
      ≡ body_answer prims q (scan_order prims q) dateline with_cursor after (map row_mark (best_rows prims q after (candidates_from prims (template_of q) (scan_order prims q) 0))) (printing n (trees_of (built_trees (candidates_from prims (template_of q) rows 0))) []))
  reading-prints n some listed light rows-light page-light =
      let scan = start-to-end prims (scan_order prims q) (template_of q) (scan_rises prims q) start.iter 0 refl in
      let page = kept_page prims q dateline with_cursor after (map row_mark (best_rows prims q after (candidates_from prims (template_of q) (scan_order prims q) 0))) in
      let build = start-to-end prims (rows_order page) (template_of q) (rows-rise page) start.iter 0 refl in
      whole-reading (candidates_from prims (template_of q) (scan_order prims q) 0) (candidates_from prims (template_of q) (rows_order page) 0) scan.0 build.0 n some listed scan.1 scan.2 scan.3 light build.1 build.2 build.3 rows-light page-light

  -- LAW: walks that tell the first of the ids that the page prints leave the answer of a reading that prints
  pub printing-told : (kept : List Mark) (n m : ℕ) (ts : Trees) (ws : List Walk) → Tell prims ws (rows_listed prims q.members (list_of ts))
      → body_answer prims q (scan_order prims q) dateline with_cursor after kept (printing n ts ws) ≡ body_answer prims q (scan_order prims q) dateline with_cursor after kept (printing m ts [])
  printing-told kept n m ts ws tell =
      ap (λ printed. if not q.count && nat_lt max_page_weight 0 then Err (too_wide (max_page_weight + 1))
      else if q.single && nat_lt 1 found then Err (refused_at (codes "NotUnique") [])
      else page_answer (if with_cursor then Some (page_cursor dateline page (nat_lt q.limit found)) else None) (if q.count then Ok (count_json (length page)) else printed))
      (walks-print prims q (list_of ts) ws tell)
    where
      found : ℕ
      found = length (window prims q after (map (mark_row prims q.sort) kept))

      page : List Row
      page = kept_page prims q dateline with_cursor after kept
