-- The best rows that a reading keeps, and the page of rows that are kept.
use Rattle.std.specs.Prelude.{◌≡◌, suc, List, [], take, filter, map, Option, Some, None}
use Rattle.std.specs.Ordering.{is_lt}
use Rattle.gd_prim.specs.declared.Primitive.{Primitive}
use Rattle.gd_defs.specs.Asked.{Asked}
use Rattle.gd_defs.specs.Reply.{Mark, mark_row, row_mark}
use Rattle.gd_defs.specs.Rows.{Row, row_of, row_cmp, sorted_onto}
use Rattle.gd_scan_laws.specs.PassedOn.{Candidate, window, answering}

-- the rows behind a mark, if there is one
abbrev pub behind_mark : List Primitive → Asked → Option Mark → List Row → List Row
behind_mark prims q None rows = rows
behind_mark prims q (Some m) rows = filter (λ r. is_lt (row_cmp prims q.sort (mark_row prims q.sort m) r)) rows

-- rows that stand in a window: behind its mark, in order, and one more than a page has at most
pub record Stand (prims : List Primitive) (q : Asked) (after : Option Mark) (rows : List Row) : Type 0 where
  pub behind : behind_mark prims q after rows ≡ rows
  pub ordered : sorted_onto (row_cmp prims q.sort) [] rows ≡ rows
  pub few : take (suc q.limit) rows ≡ rows

-- the marks of the best rows of candidates, one more than a page has
abbrev pub best : List Primitive → Asked → Option Mark → List Candidate → List Mark
best prims q after cs = map row_mark (take (suc q.limit) (window prims q after (map (row_of prims q.sort 0) (answering cs))))

-- the page of the rows that are kept
abbrev pub page_of : List Primitive → Asked → Option Mark → List Mark → List Row
page_of prims q after kept = take q.limit (window prims q after (map (mark_row prims q.sort) kept))
