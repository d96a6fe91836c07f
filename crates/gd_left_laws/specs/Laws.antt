-- What is known of the page where a scan has ended, and where its trees were made.
use Rattle.std.specs.Prelude.{◌≡◌, ℕ, ◌+◌, ◌*◌, ◌<◌, ◌≤◌, List, length, map, sum_by, Bool, true, false, Option, Ok}
use Rattle.std.specs.List.{enumerate_from, range_with_len}
use Rattle.std.specs.Ordering.{nat_cmp}
use Rattle.gd_prim.specs.declared.Primitive.{Primitive}
use Rattle.gd_defs.specs.Query.{Query}
use Rattle.gd_defs.specs.Asked.{Asking, Members, Asked, asked_query}
use Rattle.gd_defs.specs.Plan.{asked_end, link_template, clauses_of, template_of}
use Rattle.gd_defs.specs.Reply.{Mark, page, has_heavy_candidate, is_too_wide, max_page_weight}
use Rattle.gd_defs.specs.Rows as defs
use Rattle.gd_defs.specs.Template.{tree_of}
use Rattle.gd_bytes.specs.Frozen.{Scan}
use Rattle.gd_runs.specs.Owed.{ScanOrder, Candidate}
use Rattle.gd_runs.specs.RootSets.{links_of, root_sets}
use Rattle.gd_runs.specs.Scanned.{scan_order}
use Rattle.gd_runs.specs.Work.{query_work}
use Rattle.gd_runs.specs.Thawed.{built_trees, built_weight}
use Rattle.gd_template_laws.specs.Laws.{AreHeld}
use Rattle.gd_work_laws.specs.PassedOn.{start, Runs, AtEnd, link_order, rows_order}
use Rattle.gd_order_laws.specs.Window.{In, Rising}
use Rattle.gd_defs.specs.Template.{Template}
use Rattle.gd_work_laws.specs.Scan.{candidate_turns, chosen}
use Rattle.gd_window.specs.Kept.{Kept}
use Rattle.gd_window.specs.Laws.{RowsBehindAreAsDefined}
use Rattle.gd_suspended_laws.specs.Standing.{page_rows, page_objects, IsOrderOf, HasScanned, trees_among, weight_among}
use Rattle.gd_left_laws.specs.Left.{scan_left, RunGoesOn, run_count, ids_left, members_from, set_members, member_turns, row_turns, Pays}

-- a window keeps the page of a query behind a mark, and no candidate of the query weighs too much
pub record KeepsPage (prims : List Primitive) (q : Asked) (after : Option Mark) (w : Kept) : Type 0 where
  pub rows : page_rows w ≡ page prims q after
  pub light : has_heavy_candidate prims q ≡ false

-- Where a scan from the start has ended, of which no candidate weighs too much, the window keeps the page of the query.
abbrev pub ScansGivePages : Type 0
ScansGivePages = RowsBehindAreAsDefined → (prims : List Primitive) (written : Query) (q : Asked) → AreHeld prims → asked_query prims written ≡ Ok q → (order : ScanOrder) (after : Option Mark) (s : Scan) (w : Kept)
    → IsOrderOf prims q order → HasScanned prims q after order s w → AtEnd prims order (template_of q) s → KeepsPage prims q after w

-- a page is not too wide, and these are the trees of its rows
pub record IsLightPage (prims : List Primitive) (q : Asked) (after : Option Mark) (w : Kept) : Type 0 where
  pub narrow : is_too_wide prims q after ≡ false
  pub trees : trees_among prims q (page_objects w) ≡ map (λ (r : defs.Row). tree_of prims (template_of q) r.object) (page prims q after)

-- Where the rows of the page do not weigh too much together, the page is not too wide, and the trees that were gathered are those of its rows.
abbrev pub PagesAreLight : Type 0
PagesAreLight = (prims : List Primitive) (written : Query) (q : Asked) → AreHeld prims → asked_query prims written ≡ Ok q → (after : Option Mark) (w : Kept)
    → KeepsPage prims q after w → weight_among prims q (page_objects w) ≤ max_page_weight → IsLightPage prims q after w

-- What a run over the rows of a page to its end gives are the trees and the weight that are gathered of them.
abbrev pub PagesAreBuilt : Type 0
PagesAreBuilt = (prims : List Primitive) (q : Asked) (w : Kept) (e : Scan) (cs : List Candidate) → Runs prims (rows_order (page_rows w)) (template_of q) start cs e → AtEnd prims (rows_order (page_rows w)) (template_of q) e
    → (built_trees cs ≡ trees_among prims q (page_objects w)) × (built_weight cs ≡ weight_among prims q (page_objects w))

-- Each move of a run that does not go back lowers what is left of its scan by one at least, but for those that pass over places, which leave no more.
abbrev pub RunsLower : Type 0
RunsLower = (prims : List Primitive) (t : Template) (order : ScanOrder) (h : ℕ → ℕ) (members : List ℕ) → Pays prims t order h members → (s : Scan) (cs : List Candidate) (e : Scan) (r : Runs prims order t s cs e) → RunGoesOn r
    → scan_left prims t h members e + run_count r ≤ scan_left prims t h members s

-- The order of a query's scan is paid by the members of the first of its smallest sets.
abbrev pub OrdersPay : Type 0
OrdersPay = (prims : List Primitive) (q : Asked)
    → Pays prims (template_of q) (scan_order prims q) (member_turns prims q (chosen prims (root_sets prims q.members))) (set_members prims (chosen prims (root_sets prims q.members)))

-- What is left of a scan of a query at its start is ten turns for each of its work, at most.
abbrev pub StartsArePaid : Type 0
StartsArePaid = (prims : List Primitive) (written : Query) (q : Asked) → 0 < length prims → asked_query prims written ≡ Ok q
    → scan_left prims (template_of q) (member_turns prims q (chosen prims (root_sets prims q.members))) (set_members prims (chosen prims (root_sets prims q.members))) start ≤ 10 * query_work prims q

-- The order of links, each with the place at its end where it is the first one that passes, is paid by the turns of the links, if these rise.
abbrev pub LinkOrdersPay : Type 0
LinkOrdersPay = (prims : List Primitive) (q : Asked) (a : Asking) (c : Members) (links : List ℕ) → Rising nat_cmp links
    → Pays prims (template_of q) (link_order prims (asked_end a.property) (link_template a c (clauses_of a.sort c)) links) (member_turns prims q (links_of a c links)) links

-- The order of rows, each known by its number, is paid by what they have; at its start that is the sum of them.
abbrev pub RowOrdersPay : Type 0
RowOrdersPay = (prims : List Primitive) (q : Asked) (os : List ℕ)
    → Pays prims (template_of q) (enumerate_from 0 os) (row_turns prims q os) (range_with_len 0 (length os)) × (members_from (row_turns prims q os) (range_with_len 0 (length os)) 0 ≡ sum_by (λ o. 1 + candidate_turns prims q o) os)

-- Where the id of one of objects becomes known that was not, fewer of them are left.
abbrev pub IdsLower : Type 0
IdsLower = (known new : ℕ → Bool) (os : List ℕ) (o : ℕ) → In o os → known o ≡ false → new o ≡ true → ((x : ℕ) → known x ≡ true → new x ≡ true) → ids_left new os + 1 ≤ ids_left known os
