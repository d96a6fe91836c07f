-- Pages that weigh too much before all of their rows are built.
use Rattle.std.proofs.Common.{◌≡◌, ◌∙◌, sym, ap, ℕ, ◌+◌, List, [], ◌++◌, Bool, true, false, ◌&&◌, not, Option, None, Some, Ok, length, map, arith, Err}
use Rattle.std.specs.Prelude.{nat_lt, if◌then◌else◌, codes}
use Rattle.std.specs.List.{list_any}
use Rattle.std.proofs.lemmas.Bool.{lt-ltb, ltb-true}
use Rattle.gd_prim.specs.declared.Primitive.{Primitive}
use Rattle.gd_tree.specs.Trees.{Tree, Trees, list_of}
use Rattle.gd_defs.specs.Asked.{Asked}
use Rattle.gd_defs.specs.Lines.{too_wide, refused_at, count_json}
use Rattle.gd_defs.specs.Plan.{template_of}
use Rattle.gd_defs.specs.Reply.{Mark, mark_row, page_cursor, max_candidate_weight, max_page_weight, Answer, page_answer}
use Rattle.gd_defs.specs.Rows.{Row}
use Rattle.gd_bytes.specs.Frozen.{Scan, building}
use Rattle.gd_runs.specs.Owed.{ScanOrder, Candidate, candidate, tried, owed_by, weighs_too_much}
use Rattle.gd_runs.specs.Shape.{page_shape}
use Rattle.gd_runs.specs.Thawed.{window, built_trees, built_weight, page_of_rows, body_answer}
use Rattle.gd_match_laws.specs.Moves.{order_from}
use Rattle.gd_match_laws.specs.Laws.{AtEnd}
use Rattle.gd_match_laws.specs.Rows.{rows_order}
use Rattle.gd_match_laws.specs.Best.{page_of}
use Rattle.gd_match_laws.proofs.Bodies.{rows-owed}
use Rattle.gd_thaw_laws.specs.Thawing.{HeavyPagesEnd, HeavyPagesAlike}

module _ (prims : List Primitive) (q : Asked) (order : ScanOrder) (dateline : ℕ) (with_cursor : Bool) (after : Option Mark) (kept : List Mark) where
  abbrev page : List Row
  page = page_of prims q after kept

  abbrev found : ℕ
  found = length (window prims q after (map (mark_row prims q.sort) kept))

  abbrev by_heavy : Bool → Answer
  by_heavy heavy = if heavy then Err (too_wide (max_candidate_weight + 1)) else Err (too_wide (max_page_weight + 1))

  abbrev build_answer : ℕ → List Tree → List Candidate → Answer
  build_answer w ts built = if list_any weighs_too_much built then Err (too_wide (max_candidate_weight + 1))
      else page_of_rows prims q dateline with_cursor found page (w + built_weight built) (ts ++ built_trees built) []

  -- a page that weighs too much already: only a row that weighs too much itself says something else
  heavy_answer : (w : ℕ) (ts : Trees) (s : Scan) → q.count ≡ false → nat_lt max_page_weight w ≡ true
      → body_answer prims q order dateline with_cursor after kept (building w ts s) ≡ by_heavy (list_any weighs_too_much (owed_by prims (template_of q) (rows_order page) s))
  heavy_answer w ts s listed heavy =
      ap (build_answer w (list_of ts)) (rows-owed prims q s page listed)
      ∙ ap (λ l. if list_any weighs_too_much left then Err (too_wide (max_candidate_weight + 1)) else l)
      (ap (λ b. if b then Err (too_wide (max_page_weight + 1)) else printed)
      (ap (λ c. not c && nat_lt max_page_weight (w + built_weight left)) listed ∙ more (built_weight left)))
    where
      left : List Candidate
      left = owed_by prims (template_of q) (rows_order page) s

      more : (n : ℕ) → nat_lt max_page_weight (w + n) ≡ true
      more n = lt-ltb max_page_weight (w + n) (let over = ltb-true max_page_weight w heavy in omega (arith, over))

      printed : Answer
      printed = if q.single && nat_lt 1 found then Err (refused_at (codes "NotUnique") [])
          else page_answer (if with_cursor then Some (page_cursor dateline page (nat_lt q.limit found)) else None)
          (if q.count then Ok (count_json (length page)) else page_shape prims q (list_of ts ++ built_trees left) [])

  owes_nothing : (s : Scan) → AtEnd prims (rows_order page) (template_of q) s → owed_by prims (template_of q) (rows_order page) s ≡ []
  owes_nothing s end =
      ap (λ fs. tried prims (template_of q) s.weight fs ++ map (λ c. candidate prims (template_of q) c.1) (order_from prims (template_of q) (rows_order page) s.iter.place)) end.frames
      ∙ ap (map (λ c. candidate prims (template_of q) c.1)) end.places

-- ---- LAWS

pub heavy_pages_end : HeavyPagesEnd
heavy_pages_end prims q order dateline with_cursor after kept w ts s listed end heavy =
    heavy_answer prims q order dateline with_cursor after kept w ts s listed heavy
    ∙ ap (λ cs. by_heavy prims q order dateline with_cursor after kept (list_any weighs_too_much cs)) (owes_nothing prims q order dateline with_cursor after kept s end)

pub heavy_pages_alike : HeavyPagesAlike
heavy_pages_alike prims q order dateline with_cursor after kept w v ts us s listed heavy also =
    heavy_answer prims q order dateline with_cursor after kept w ts s listed heavy
    ∙ sym (heavy_answer prims q order dateline with_cursor after kept v us s listed also)
