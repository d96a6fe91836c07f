-- The laws of readings that are suspended.
use Rattle.std.specs.Prelude.{◌≡◌, ◌<◌, ◌≤◌, ℕ, ◌+◌, List, [], map, filter, take, drop, length, slice_get, Bool, true, false, nat_lt, Option, Some, None, Ok, if◌then◌else◌, codes, Err}
use Rattle.std.specs.List.{list_any, enumerate_from}
use Rattle.std.specs.Ordering.{nat_cmp}
use Rattle.gd_prim.specs.declared.Primitive.{Primitive}
use Rattle.gd_prim.specs.Live.{objects}
use Rattle.gd_tree.specs.Trees.{Trees, no_trees, append, trees_of, list_of, lists_of}
use Rattle.gd_defs.specs.Query.{Query}
use Rattle.gd_defs.specs.Asked.{Asked, Asking, Members, asked_query}
use Rattle.gd_defs.specs.Lines.{too_wide, refused_at, count_json}
use Rattle.gd_defs.specs.Plan.{asked_end, template_of}
use Rattle.gd_defs.specs.Reply.{Mark, page_cursor, is_ambiguous, max_candidate_weight, max_page_weight, page_answer, answer}
use Rattle.gd_defs.specs.Rows.{key_place, meets_given, met}
use Rattle.gd_defs.specs.Template.{Template, tree_of, passes_template, weight}
use Rattle.gd_bytes.specs.Frozen.{Scan, scanning, building, printing}
use Rattle.gd_runs.specs.Owed.{ScanOrder, Candidate, is_among, owed_by, weighs_too_much}
use Rattle.gd_runs.specs.RootSets.{everything, links_of}
use Rattle.gd_runs.specs.Scanned.{scan_order, set_order}
use Rattle.gd_runs.specs.Shape.{page_shape}
use Rattle.gd_runs.specs.Shape.Answers.{key_places, sort_lists}
use Rattle.gd_runs.specs.Thawed.{built_trees, built_weight, body_answer}
use Rattle.gd_match_laws.specs.PassedOn.{AreHeld, start}
use Rattle.gd_order_laws.specs.Window.{In, Apart, Rising}
use Rattle.gd_match_laws.specs.Links.{passing_links, link_order}
use Rattle.gd_match_laws.specs.Moves.{Runs}
use Rattle.gd_match_laws.specs.Laws.{AtEnd}
use Rattle.gd_match_laws.specs.Rows.{rows_order}
use Rattle.gd_window.specs.Kept.{Kept}
use Rattle.gd_window.specs.Laws.{RowsBehindAreAsDefined}
use Rattle.gd_suspended_laws.specs.Standing.{rows_of, marks_of, page_rows, IsOrderOf, HasScanned, IsKept, ChangesNothing, HasVisited, page_objects, trees_among, weight_among}

-- The sort keys of an object stand where its tree tells.
abbrev pub TreesTellKeys : Type 0
TreesTellKeys = (prims : List Primitive) (written : Query) (q : Asked) (o : ℕ) → AreHeld prims → asked_query prims written ≡ Ok q
    → key_places q.sort o (sort_lists q.members (lists_of (tree_of prims (template_of q) o))) ≡ map (key_place prims o) q.sort

-- The order of a query's scan is one.
abbrev pub OrdersAre : Type 0
OrdersAre = (prims : List Primitive) (written : Query) (q : Asked) → AreHeld prims → asked_query prims written ≡ Ok q → IsOrderOf prims q (scan_order prims q)

-- So is that of all places.
abbrev pub EverythingIs : Type 0
EverythingIs = (prims : List Primitive) (written : Query) (q : Asked) → AreHeld prims → asked_query prims written ≡ Ok q → IsOrderOf prims q (set_order prims everything)

-- So is each that has no place twice, and each place that passes.
abbrev pub FullAre : Type 0
FullAre = (prims : List Primitive) (written : Query) (q : Asked) (order : ScanOrder) → AreHeld prims → asked_query prims written ≡ Ok q → Apart nat_cmp (map (λ c. c.1) order)
    → ((o : ℕ) → passes_template prims (template_of q) o ≡ true → In o (map (λ c. c.1) order)) → IsOrderOf prims q order

-- The order of links by the template of a member's links is the one in which the definitions scan them, as far as objects go.
abbrev pub LinksAreDefined : Type 0
LinksAreDefined = (prims : List Primitive) (a : Asking) (c : Members) (t : Template) (links : List ℕ) → ((o : ℕ) → passing_links prims (asked_end a.property) t o ≡ met prims a c o) → Rising nat_cmp links
    → ((o : ℕ) → In o (objects prims) → (k : ℕ) → In k (passing_links prims (asked_end a.property) t o) → In k links)
    → set_order prims (links_of a c links) ≡ filter (λ d. is_among (objects prims) d.1) (link_order prims (asked_end a.property) t links)

-- So is that of a scan for members that each candidate meets, as some of the query's own.
abbrev pub FewerAre : Type 0
FewerAre = (prims : List Primitive) (written : Query) (q : Asked) (ms : Members) → AreHeld prims → asked_query prims written ≡ Ok q → ((o : ℕ) → meets_given prims q.members 0 o ≡ true → meets_given prims ms 0 o ≡ true)
    → IsOrderOf prims q (scan_order prims (record q { members = ms }))

-- ---- scanning

-- A reading that has given nothing owes the answer to its query, in whichever order it scans.
abbrev pub StartsOwe : Type 0
StartsOwe = (prims : List Primitive) (written : Query) (q : Asked) (order : ScanOrder) → AreHeld prims → asked_query prims written ≡ Ok q → IsOrderOf prims q order → (dateline : ℕ) (with_cursor : Bool) (after : Option Mark)
    → body_answer prims q order dateline with_cursor after [] (scanning start) ≡ answer prims dateline with_cursor after written

-- Wherever a scan stands that came from its start, the reading owes what it did there.
abbrev pub ScansOwe : Type 0
ScansOwe = RowsBehindAreAsDefined → (prims : List Primitive) (q : Asked) (order : ScanOrder) (after : Option Mark) (s : Scan) (w : Kept) → 0 < q.limit → IsOrderOf prims q order → HasScanned prims q after order s w → (dateline : ℕ) (with_cursor : Bool)
    → body_answer prims q order dateline with_cursor after (marks_of w) (scanning s) ≡ body_answer prims q order dateline with_cursor after [] (scanning start)

-- Where a candidate that is owed weighs too much, the reading owes the refusal that says so.
abbrev pub HeavyScansRefuse : Type 0
HeavyScansRefuse = (prims : List Primitive) (q : Asked) (order : ScanOrder) (dateline : ℕ) (with_cursor : Bool) (after : Option Mark) (kept : List Mark) (s : Scan) → list_any weighs_too_much (owed_by prims (template_of q) order s) ≡ true
    → body_answer prims q order dateline with_cursor after kept (scanning s) ≡ Err (too_wide (max_candidate_weight + 1))

-- Where each place that passes is one of a list, which has none twice, and all of the list were visited, a scan of these one after another may go to its end with the window that has seen their rows.
abbrev pub VisitsEnd : Type 0
VisitsEnd = (prims : List Primitive) (written : Query) (q : Asked) (after : Option Mark) (places : List ℕ) (w : Kept) → AreHeld prims → asked_query prims written ≡ Ok q → Apart nat_cmp places
    → ((o : ℕ) → passes_template prims (template_of q) o ≡ true → In o places) → HasVisited prims q after places w
    → IsOrderOf prims q (enumerate_from 0 places) × ((e : Scan) × (HasScanned prims q after (enumerate_from 0 places) e w × AtEnd prims (enumerate_from 0 places) (template_of q) e))

-- Where the first places of a list were visited, and none of the others would change anything, all were.
abbrev pub VisitsEndEarly : Type 0
VisitsEndEarly = (prims : List Primitive) (q : Asked) (after : Option Mark) (places : List ℕ) (n : ℕ) (w : Kept) → HasVisited prims q after (take n places) w → ((o : ℕ) → In o (drop n places) → ChangesNothing prims q w o)
    → HasVisited prims q after places w

-- Where one place passes and weighs too much, the answer to the query is the refusal that says so.
abbrev pub HeavyVisitsRefuse : Type 0
HeavyVisitsRefuse = (prims : List Primitive) (written : Query) (q : Asked) (o : ℕ) → AreHeld prims → asked_query prims written ≡ Ok q → passes_template prims (template_of q) o ≡ true → max_candidate_weight < weight prims (template_of q) o
    → (dateline : ℕ) (with_cursor : Bool) (after : Option Mark) → answer prims dateline with_cursor after written ≡ Err (too_wide (max_candidate_weight + 1))

-- The rows that a scan keeps are read again from their marks.
abbrev pub ScansKeep : Type 0
ScansKeep = RowsBehindAreAsDefined → (prims : List Primitive) (q : Asked) (order : ScanOrder) (after : Option Mark) (s : Scan) (w : Kept) → IsOrderOf prims q order → HasScanned prims q after order s w → IsKept prims q after w

-- ---- building

-- Where no candidate is left, the trees of the rows that are kept are built.
abbrev pub ThenBuilds : Type 0
ThenBuilds = (prims : List Primitive) (q : Asked) (order : ScanOrder) (dateline : ℕ) (with_cursor : Bool) (after : Option Mark) (kept : List Mark) (s : Scan) → AtEnd prims order (template_of q) s
    → body_answer prims q order dateline with_cursor after kept (scanning s) ≡ body_answer prims q order dateline with_cursor after kept (building 0 no_trees start)

-- A reading that builds trees goes on by a run over its rows, none of which weighs too much.
abbrev pub BuildsGo : Type 0
BuildsGo = (prims : List Primitive) (q : Asked) (order : ScanOrder) (dateline : ℕ) (with_cursor : Bool) (after : Option Mark) (w : Kept) → IsKept prims q after w → q.count ≡ false → (weight : ℕ) (ts : Trees) (s m : Scan) (cs : List Candidate)
    → Runs prims (rows_order (page_rows w)) (template_of q) s cs m → list_any weighs_too_much cs ≡ false
    → body_answer prims q order dateline with_cursor after (marks_of w) (building weight ts s)
    ≡ body_answer prims q order dateline with_cursor after (marks_of w) (building (weight + built_weight cs) (append ts (trees_of (built_trees cs))) m)

-- The trees of the rows of a page that answer may be printed at once, where these do not weigh too much together.
abbrev pub PagesPrint : Type 0
PagesPrint = (prims : List Primitive) (q : Asked) (order : ScanOrder) (dateline : ℕ) (with_cursor : Bool) (after : Option Mark) (w : Kept) → IsKept prims q after w → q.count ≡ false
    → weight_among prims q (page_objects w) ≤ max_page_weight
    → body_answer prims q order dateline with_cursor after (marks_of w) (building 0 no_trees start)
    ≡ body_answer prims q order dateline with_cursor after (marks_of w) (printing 0 (trees_of (trees_among prims q (page_objects w))) [])

-- Where those of the first rows of a page that answer weigh too much together, the reading owes the refusal that says so.
abbrev pub PagesRefuse : Type 0
PagesRefuse = (prims : List Primitive) (q : Asked) (order : ScanOrder) (dateline : ℕ) (with_cursor : Bool) (after : Option Mark) (w : Kept) → IsKept prims q after w → q.count ≡ false → (n : ℕ)
    → max_page_weight < weight_among prims q (take n (page_objects w))
    → body_answer prims q order dateline with_cursor after (marks_of w) (building 0 no_trees start) ≡ Err (too_wide (max_page_weight + 1))

-- No row of a page weighs too much by itself, if it passes.
abbrev pub RowsAreLight : Type 0
RowsAreLight = (prims : List Primitive) (q : Asked) (after : Option Mark) (w : Kept) → IsKept prims q after w → (n o : ℕ) → slice_get (page_objects w) n ≡ Some o → passes_template prims (template_of q) o ≡ true
    → weight prims (template_of q) o ≤ max_candidate_weight

-- Where a row that is still to be built weighs too much, the reading owes the refusal that says so.
abbrev pub HeavyBuildsRefuse : Type 0
HeavyBuildsRefuse = (prims : List Primitive) (q : Asked) (order : ScanOrder) (dateline : ℕ) (with_cursor : Bool) (after : Option Mark) (w : Kept) → IsKept prims q after w → q.count ≡ false → (weight : ℕ) (ts : Trees) (s : Scan)
    → list_any weighs_too_much (owed_by prims (template_of q) (rows_order (page_rows w)) s) ≡ true
    → body_answer prims q order dateline with_cursor after (marks_of w) (building weight ts s) ≡ Err (too_wide (max_candidate_weight + 1))

-- Where the rows that were built weigh too much together, and of those that are left none does by itself, the reading owes the refusal that says so.
abbrev pub HeavyPagesRefuse : Type 0
HeavyPagesRefuse = (prims : List Primitive) (q : Asked) (order : ScanOrder) (dateline : ℕ) (with_cursor : Bool) (after : Option Mark) (w : Kept) → IsKept prims q after w → q.count ≡ false → (weight : ℕ) (ts : Trees) (s : Scan)
    → list_any weighs_too_much (owed_by prims (template_of q) (rows_order (page_rows w)) s) ≡ false → nat_lt max_page_weight weight ≡ true
    → body_answer prims q order dateline with_cursor after (marks_of w) (building weight ts s) ≡ Err (too_wide (max_page_weight + 1))

-- ---- printing

-- Where no row is left and the page does not weigh too much, its trees are printed.
abbrev pub ThenPrints : Type 0
ThenPrints = (prims : List Primitive) (q : Asked) (order : ScanOrder) (dateline : ℕ) (with_cursor : Bool) (after : Option Mark) (w : Kept) → IsKept prims q after w → q.count ≡ false → (weight : ℕ) (ts : Trees) (s : Scan)
    → AtEnd prims (rows_order (page_rows w)) (template_of q) s → nat_lt max_page_weight weight ≡ false
    → body_answer prims q order dateline with_cursor after (marks_of w) (building weight ts s) ≡ body_answer prims q order dateline with_cursor after (marks_of w) (printing 0 ts [])

-- Of a count no tree is built.
abbrev pub ThenCounts : Type 0
ThenCounts = (prims : List Primitive) (q : Asked) (order : ScanOrder) (dateline : ℕ) (with_cursor : Bool) (after : Option Mark) (kept : List Mark) → q.count ≡ true
    → body_answer prims q order dateline with_cursor after kept (building 0 no_trees start) ≡ body_answer prims q order dateline with_cursor after kept (printing 0 no_trees [])

-- A reading that prints, of which more than one row was found where one is asked, owes the refusal that says so.
abbrev pub ManyRefuse : Type 0
ManyRefuse = (prims : List Primitive) (q : Asked) (order : ScanOrder) (dateline : ℕ) (with_cursor : Bool) (after : Option Mark) (w : Kept) → IsKept prims q after w → (ts : Trees) → is_ambiguous q.single (length (rows_of w)) ≡ true
    → body_answer prims q order dateline with_cursor after (marks_of w) (printing 0 ts []) ≡ Err (refused_at (codes "NotUnique") [])

-- Else it owes the answer of its page: the count, or what its trees print, with the cursor where one is asked.
abbrev pub PrintsOwe : Type 0
PrintsOwe = (prims : List Primitive) (q : Asked) (order : ScanOrder) (dateline : ℕ) (with_cursor : Bool) (after : Option Mark) (w : Kept) → IsKept prims q after w → (ts : Trees) → is_ambiguous q.single (length (rows_of w)) ≡ false
    → body_answer prims q order dateline with_cursor after (marks_of w) (printing 0 ts [])
    ≡ page_answer (if with_cursor then Some (page_cursor dateline (page_rows w) (nat_lt w.limit (length (rows_of w)))) else None)
    (if q.count then Ok (count_json (length (page_rows w))) else page_shape prims q (list_of ts) [])
