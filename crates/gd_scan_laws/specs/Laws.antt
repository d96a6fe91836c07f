-- The laws of scans.
use Rattle.std.specs.Prelude.{◌≡◌, ◌↔◌, ℕ, suc, ◌<◌, ◌≤◌, List, [], ◌++◌, map, filter, take, Bool, false, Option, Ok}
use Rattle.std.specs.List.{list_any}
use Rattle.std.specs.Ordering.{nat_cmp}
use Rattle.gd_prim.specs.declared.Primitive.{Primitive}
use Rattle.gd_defs.specs.Query.{Query}
use Rattle.gd_defs.specs.Asked.{Asked, asked_query}
use Rattle.gd_defs.specs.Rows.{Row, row_of, candidates}
use Rattle.gd_defs.specs.Reply.{Mark, row_mark, answer}
use Rattle.gd_defs.specs.Template.{is_answer}
use Rattle.gd_defs.specs.Plan.{template_of}
use Rattle.gd_page_laws.specs.PassedOn.{scanning, ScanOrder, candidate, weighs_too_much, scan_order, body_answer, window, AreHeld}
use Rattle.gd_order_laws.specs.Window.{In, Each, Apart, Rising}
use Rattle.gd_scan_laws.specs.Ordered.{start, settled, scan_answer, scanned}

-- A reading that has settled nothing and keeps no rows owes the answer to its query, with or without a cursor, from the start or behind a mark.
abbrev pub ReadingsOwe : Type 0
ReadingsOwe = (prims : List Primitive) (written : Query) (q : Asked) → AreHeld prims → asked_query prims written ≡ Ok q → (dateline : ℕ) (with_cursor : Bool) (after : Option Mark)
    → body_answer prims q (scan_order prims q) dateline with_cursor after [] (scanning start) ≡ answer prims dateline with_cursor after written

-- What is owed at the start does not depend on the order of the scan, where each candidate comes once.
abbrev pub AnyOrder : Type 0
AnyOrder = (prims : List Primitive) (q : Asked) (one two : ScanOrder) → Apart nat_cmp (scanned prims q one) → Apart nat_cmp (scanned prims q two) → ((p : ℕ) → In p (scanned prims q one) ↔ In p (scanned prims q two))
    → (dateline : ℕ) (with_cursor : Bool) (after : Option Mark) → scan_answer prims q one dateline with_cursor after [] start ≡ scan_answer prims q two dateline with_cursor after [] start

-- an order walks rising places, has each candidate of a query, and none that passes twice
pub record HasAll (prims : List Primitive) (q : Asked) (order : ScanOrder) : Type 0 where
  pub rising : Rising nat_cmp (map (λ c. c.0) order)
  pub all : (o : ℕ) → In o (candidates prims q) → In o (map (λ c. c.1) order)
  pub once : Apart nat_cmp (scanned prims q order)

-- The order of a query's scan walks rising places and has each of its candidates, once.
abbrev pub OrdersHaveAll : Type 0
OrdersHaveAll = (prims : List Primitive) (q : Asked) → HasAll prims q (scan_order prims q)

-- the rows that a window keeps of the candidates of settled places, one more than a page has
abbrev pub kept : List Primitive → Asked → Option Mark → ScanOrder → List Row
kept prims q after before = take (suc q.limit) (window prims q after (map (row_of prims q.sort 0) (filter (is_answer prims (template_of q)) (scanned prims q before))))

-- A scan that has settled the places below one, of which no candidate weighs too much, and keeps the best rows of them, owes what it did at its start.
abbrev pub ScansGoOn : Type 0
ScansGoOn = (prims : List Primitive) (q : Asked) (from : ℕ) (before behind : ScanOrder) → Each (λ c. c.0 < from) before → Each (λ c. from ≤ c.0) behind
    → list_any (λ p. weighs_too_much (candidate prims (template_of q) p)) (scanned prims q before) ≡ false → Apart nat_cmp (scanned prims q before) → 0 < q.limit
    → (dateline : ℕ) (with_cursor : Bool) (after : Option Mark)
    → scan_answer prims q (before ++ behind) dateline with_cursor after (map row_mark (kept prims q after before)) (settled from) ≡ scan_answer prims q (before ++ behind) dateline with_cursor after [] start
