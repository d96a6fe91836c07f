-- Readings that go on from a frozen position: where they stand, and their laws.
use Rattle.std.specs.Prelude.{◌≡◌, ◌<◌, ◌≤◌, ℕ, ◌+◌, suc, List, [], ◌++◌, map, filter, take, Bool, true, false, ◌&&◌, nat_lt, nat_le, Option, None, Err}
use Rattle.std.specs.List.{list_any}
use Rattle.std.specs.Ordering.{nat_cmp}
use Rattle.gd_prim.specs.declared.Primitive.{Primitive}
use Rattle.gd_tree.specs.Trees.{Trees}
use Rattle.gd_defs.specs.Asked.{Asked}
use Rattle.gd_defs.specs.Lines.{too_wide}
use Rattle.gd_defs.specs.Plan.{template_of}
use Rattle.gd_defs.specs.Reply.{Mark, mark_row, row_mark, max_page_weight}
use Rattle.gd_defs.specs.Rows.{Row, row_of}
use Rattle.gd_defs.specs.Template.{Template, passes_template}
use Rattle.gd_bytes.specs.Frozen.{Scan, scanning, building}
use Rattle.gd_runs.specs.Owed.{ScanOrder, Candidate, candidate, MembersOf, scan_fits, weighs_too_much}
use Rattle.gd_runs.specs.Thawed.{window, answering, body_answer}
use Rattle.gd_order_laws.specs.Window.{Rising}
use Rattle.gd_match_laws.specs.Laws.{AtEnd}
use Rattle.gd_match_laws.specs.Moves.{Runs}
use Rattle.gd_match_laws.specs.Rows.{rows_order}
use Rattle.gd_match_laws.specs.Best.{page_of}
use Rattle.gd_window.specs.Kept.{Kept}
use Rattle.gd_suspended_laws.specs.Standing.{HasScanned, HasVisited}

-- a scan between two candidates: it has settled the places below this one
abbrev pub between : ℕ → Scan
between p = record { iter = record { place = p; accepted = None }; weight = 0; frames = [] }

-- what an order has from one place up to another
abbrev pub order_within : ScanOrder → ℕ → ℕ → ScanOrder
order_within order a b = filter (λ c. nat_le a c.0 && nat_lt c.0 b) order

-- the candidates of that
abbrev pub candidates_within : List Primitive → Template → ScanOrder → ℕ → ℕ → List Candidate
candidates_within prims t order a b = map (λ c. candidate prims t c.1) (filter (λ c. passes_template prims t c.1) (order_within order a b))

-- the rows that are kept when a reading begins to go on, and those of the candidates that were given since
abbrev pub offered_since : List Primitive → Asked → List Mark → List Candidate → List Row
offered_since prims q kept cs = map (mark_row prims q.sort) kept ++ map (row_of prims q.sort 0) (answering cs)

-- the marks of the best of these, one more than a page has
abbrev pub best_since : List Primitive → Asked → Option Mark → List Mark → List Candidate → List Mark
best_since prims q after kept cs = map row_mark (take (suc q.limit) (window prims q after (offered_since prims q kept cs)))

-- ---- laws

-- A scan between two candidates may go to each later place, and gives the candidates up to there, where the order rises.
abbrev pub ScansReach : Type 0
ScansReach = (prims : List Primitive) (order : ScanOrder) (t : Template) (a b : ℕ) → Rising nat_cmp (map (λ c. c.0) order) → a ≤ b → Runs prims order t (between a) (candidates_within prims t order a b) (between b)

-- Where the candidates of an order up to a place were visited, by whatever means, a scan may stand at that place with the window that it has.
abbrev pub VisitsScan : Type 0
VisitsScan = (prims : List Primitive) (q : Asked) (after : Option Mark) (order : ScanOrder) (p : ℕ) (w : Kept) → Rising nat_cmp (map (λ c. c.0) order) → HasVisited prims q after (map (λ c. c.1) (order_within order 0 p)) w → HasScanned prims q after order (between p) w

-- A reading that goes on scanning from a position that fits, with whatever rows, owes what it owed there, if it keeps the best of these and of the rows that it found since.
abbrev pub ThawedScansOwe : Type 0
ThawedScansOwe = (prims : List Primitive) (members : MembersOf) (q : Asked) (order : ScanOrder) (dateline : ℕ) (with_cursor : Bool) (after : Option Mark) (kept : List Mark) (s m : Scan) (cs : List Candidate) → 0 < q.limit → scan_fits prims members (template_of q) s ≡ true
    → Runs prims order (template_of q) s cs m → list_any weighs_too_much cs ≡ false
    → body_answer prims q order dateline with_cursor after kept (scanning s) ≡ body_answer prims q order dateline with_cursor after (best_since prims q after kept cs) (scanning m)

-- The rows that are read are as good as the best of them: a window may be filled with them anew.
abbrev pub KeptStand : Type 0
KeptStand = (prims : List Primitive) (q : Asked) (order : ScanOrder) (dateline : ℕ) (with_cursor : Bool) (after : Option Mark) (kept : List Mark) (s : Scan) → 0 < q.limit
    → body_answer prims q order dateline with_cursor after kept (scanning s) ≡ body_answer prims q order dateline with_cursor after (best_since prims q after kept []) (scanning s)

-- Where no row is left to be built and the page weighs too much, the reading owes the refusal that says so, whatever its trees.
abbrev pub HeavyPagesEnd : Type 0
HeavyPagesEnd = (prims : List Primitive) (q : Asked) (order : ScanOrder) (dateline : ℕ) (with_cursor : Bool) (after : Option Mark) (kept : List Mark) (w : ℕ) (ts : Trees) (s : Scan) → q.count ≡ false
    → AtEnd prims (rows_order (page_of prims q after kept)) (template_of q) s → nat_lt max_page_weight w ≡ true
    → body_answer prims q order dateline with_cursor after kept (building w ts s) ≡ Err (too_wide (max_page_weight + 1))

-- Once the rows that were built weigh too much together, neither their weight nor their trees matter.
abbrev pub HeavyPagesAlike : Type 0
HeavyPagesAlike = (prims : List Primitive) (q : Asked) (order : ScanOrder) (dateline : ℕ) (with_cursor : Bool) (after : Option Mark) (kept : List Mark) (w v : ℕ) (ts us : Trees) (s : Scan) → q.count ≡ false
    → nat_lt max_page_weight w ≡ true → nat_lt max_page_weight v ≡ true
    → body_answer prims q order dateline with_cursor after kept (building w ts s) ≡ body_answer prims q order dateline with_cursor after kept (building v us s)
