-- Where a reading stands that goes on from a frozen text: what it does, over the batches below its dateline, so that it owes an answer.
use Rattle.std.specs.Prelude.{◌≡◌, ◌+◌, ◌<◌, ◌≤◌, ℕ, List, [], ◌∷◌, map, length, true, false, Option, Some, None, Result, Ok, if◌then◌else◌}
use Rattle.std.specs.List.{list_any, list_all}
use Rattle.gd_prim.specs.declared.Batch.{Batch}
use Rattle.gd_prim.specs.declared.Primitive.{Primitive}
use Rattle.gd_prim.specs.History.{prims_of, AreHeld}
use Rattle.gd_prim.specs.Limits.{max_requests}
use Rattle.gd_grammar.specs.Mark.{Mark}
use Rattle.gd_tree.specs.Json.{Json}
use Rattle.gd_tree.specs.Trees.{Trees, no_trees, append, trees_of, list_of, trees_count}
use Rattle.gd_defs.specs.Asked.{Asked}
use Rattle.gd_defs.specs.Plan.{template_of}
use Rattle.gd_defs.specs.Lines.{count_json}
use Rattle.gd_defs.specs.Reply.{mark_row, Answer, Path}
use Rattle.gd_bytes.specs.Frozen.{Scan, Body, Walk, scanning, building, printing, max_number, after_in_bounds, walk_in_bounds}
use Rattle.gd_frozen.specs.Meaning.{scan_of}
use Rattle.gd_frozen.specs.Pieces.{trees_in}
use Rattle.gd_runs.specs.Owed.{ScanOrder, Candidate, scan_fits, weighs_too_much}
use Rattle.gd_runs.specs.Fitting.{row_fits, body_fits}
use Rattle.gd_runs.specs.Scanned.{scan_order}
use Rattle.gd_runs.specs.Shape.{page_shape}
use Rattle.gd_runs.specs.Thawed.{window, answering, built_trees, body_answer}
use Rattle.gd_scan_laws.specs.Ordered.{start}
use Rattle.gd_match_laws.specs.Moves.{Runs}
use Rattle.gd_match_laws.specs.Rows.{rows_order}
use Rattle.gd_roots.specs.PassedOn.{StandsIn, stands, order_of, IsOver, Matcher}
use Rattle.gd_plan.specs.Asked.{asked_view}
use Rattle.gd_plan.specs.declared.asked.Asked.{Asked as Found}
use Rattle.gd_trees.specs.View.{view as tree_view, trees_view}
use Rattle.gd_trees.specs.declared.tree.Trees.{Trees as Built}
use Rattle.gd_window.specs.Kept.{Kept}
use Rattle.gd_suspended_laws.specs.Standing.{rows_of, marks_of, page_rows, window_of}
use Rattle.gd_thaw_laws.specs.Gone.{HasGone}
use Rattle.gd_thaw_laws.specs.Spelled.{one_member}
use Rattle.gd_thaw_laws.specs.Standing.{RowsFit, ScansAlike}
use Rattle.gd_shape.specs.Shaping as shaping
use Rattle.gd_shape.specs.Shaping.{asked_of, page_of, body_print, walks_in, IsOf}
use Rattle.gd_shape.specs.declared.shape.PageBody.{PageBody}
use Rattle.gd_shape.specs.declared.shape.PageBody.TheVariants as page
use Rattle.gd_thawed.specs.Keying.{HasKeys}
use Rattle.gd_thawed.specs.Subject.{asked_by, after_of, marks_in}
use Rattle.gd_thawed.specs.declared.subject.Subject.{Subject}
use Rattle.gd_thawed.specs.declared.keying.Keying.{Keying}
use Rattle.gd_thawed.specs.declared.scanning.Scanning.{Scanning}
use Rattle.gd_thawed.specs.declared.building.Building.{Building}
use Rattle.gd_thawed.specs.declared.printing.Printing.{Printing}
use Rattle.gd_thawed.specs.declared.stage.Stage.{Stage}
use Rattle.gd_thawed.specs.declared.stage.Stage.TheVariants as stage

-- this is what a reading asks, with few sort keys and a limit, over the batches below its dateline, within the limits of a store; its dateline and the row after which its page begins can be spelt
pub record IsAsked (batches : List Batch) (s : Subject) (q : Asked) : Type 0 where
  pub asked : asked_by s ≡ q
  pub below : length batches ≡ s.dateline
  pub held : AreHeld (prims_of batches)
  pub end : length (prims_of batches) ≤ 2_097_151
  pub few : length q.sort ≤ 4
  pub some : 0 < q.limit
  pub most : q.limit ≤ 1000
  pub dateline : s.dateline ≤ max_requests
  pub mark : after_in_bounds (after_of s.after) ≡ true

-- what a body owes that scans in an order, with marks of rows that are kept
abbrev pub kept_owes : List Batch → Subject → Asked → ScanOrder → List Mark → Body → Answer
kept_owes batches s q order kept body = body_answer (prims_of batches) q order s.dateline s.with_cursor (after_of s.after) kept body

-- what a body owes with the rows that a window keeps, where it no longer scans
abbrev pub body_owes : List Batch → Subject → Asked → Kept → Body → Answer
body_owes batches s q w body = kept_owes batches s q (scan_order (prims_of batches) q) (marks_of w) body

-- rows with which a reading is told: they fit and are not too many, its page has no more, and with them it owes what it does with those of its window
pub record TellsRows (batches : List Batch) (s : Subject) (q : Asked) (rows : List Mark) (w : Kept) : Type 0 where
  pub fit : list_all (row_fits (prims_of batches) q) rows ≡ true
  pub few : length rows ≤ q.limit + 1
  pub page : length (page_rows w) ≤ length rows
  pub alike : (body : Body) → kept_owes batches s q (scan_order (prims_of batches) q) rows body ≡ body_owes batches s q w body

-- ---- scanning

-- the order in which a matcher scans for a query
abbrev pub order_for : List Batch → Found → Matcher → ScanOrder
order_for batches plan m = order_of batches (template_of (asked_view plan)) m

-- a reading has gone on from kept rows and a position that fit, where it owed this, to a position and a window
pub record HasComeFrom (batches : List Batch) (owed : Answer) (s : Subject) (q : Asked) (order : ScanOrder) (at : Scan) (w : Kept) : Type 0 where
  pub kept : List Mark
  pub from : Scan
  pub rows : list_all (row_fits (prims_of batches) q) kept ≡ true
  pub fits : scan_fits (prims_of batches) one_member (template_of q) from ≡ true
  pub gone : HasGone (prims_of batches) q (after_of s.after) order kept from at w
  pub owes : kept_owes batches s q order kept (scanning from) ≡ owed

-- where a matcher stands can be told in a text: in place in an order that scans a query as the definitions do
pub record CanFreeze (batches : List Batch) (q : Asked) (m : Matcher) : Type 0 where
  pub inside : StandsIn (length (prims_of batches)) batches (template_of q) m
  pub weight : m.weight ≤ max_number
  pub alike : ScansAlike (prims_of batches) q (order_of batches (template_of q) m)

-- a reading scans, and has come to where its matcher stands
pub record Scans (batches : List Batch) (owed : Answer) (s : Subject) (plan : Found) (m : Matcher) (w : Kept) : Type 0 where
  pub asked : IsAsked batches s (asked_view plan)
  pub over : IsOver batches (template_of (asked_view plan)) m
  pub come : HasComeFrom batches owed s (asked_view plan) (order_for batches plan m) (stands m) w
  pub told : CanFreeze batches (asked_view plan) m

-- a scan with which a reading may be told: it fits and can be spelt, and owes the same with the rows of the window
pub record TellsScan (batches : List Batch) (owed : Answer) (s : Subject) (q : Asked) (w : Kept) (told : Scan) : Type 0 where
  pub fits : scan_fits (prims_of batches) one_member (template_of q) told ≡ true
  pub light : told.weight ≤ max_number
  pub owes : body_owes batches s q w (scanning told) ≡ owed

-- a reading scans, and may be told as it was before
pub record ScansFrom (batches : List Batch) (owed : Answer) (s : Subject) (plan : Found) (m : Matcher) (before : Scan) (w : Kept) : Type 0 where
  pub scans : Scans batches owed s plan m w
  pub tells : TellsScan batches owed s (asked_view plan) w before

-- a reading scans, and its matcher has given a candidate that answers, whose row is not offered yet; its sort keys are looked for
pub record LooksForKeys (batches : List Batch) (owed : Answer) (s : Subject) (plan : Found) (m : Matcher) (k : Keying) (w : Kept) : Type 0 where
  pub asked : IsAsked batches s (asked_view plan)
  pub over : IsOver batches (template_of (asked_view plan)) m
  pub at : Scan
  pub come : HasComeFrom batches owed s (asked_view plan) (order_for batches plan m) at w
  pub given : List Candidate
  pub runs : Runs (prims_of batches) (order_for batches plan m) (template_of (asked_view plan)) at given (stands m)
  pub light : list_any weighs_too_much given ≡ false
  pub objects : answering given ≡ k.object ∷ []
  pub keys : HasKeys (prims_of batches) plan.sort.items k
  pub told : CanFreeze batches (asked_view plan) m

-- so it does, and may be told as it was before that candidate
pub record LooksFrom (batches : List Batch) (owed : Answer) (s : Subject) (plan : Found) (m : Matcher) (before : Scan) (k : Keying) (w : Kept) : Type 0 where
  pub looks : LooksForKeys batches owed s plan m k w
  pub tells : TellsScan batches owed s (asked_view plan) w before

-- ---- the end of a scan

-- a window of a query keeps rows that the definitions read again from their marks, in order
pub record KeepsRows (prims : List Primitive) (q : Asked) (s : Subject) (w : Kept) : Type 0 where
  pub is : w ≡ window_of prims q (after_of s.after) w.rows
  pub again : window prims q (after_of s.after) (map (mark_row prims q.sort) (marks_of w)) ≡ rows_of w

-- the scan of a plan has ended: the rows are kept, and their trees are to be built
pub record IsScanned (batches : List Batch) (owed : Answer) (s : Subject) (plan : Found) (w : Kept) : Type 0 where
  pub asked : IsAsked batches s (asked_view plan)
  pub keeps : KeepsRows (prims_of batches) (asked_view plan) s w
  pub fit : RowsFit (prims_of batches) (asked_view plan) w
  pub owes : body_owes batches s (asked_view plan) w (building 0 no_trees start) ≡ owed

-- ---- building

-- the trees of a reading that builds
abbrev pub trees_built : Building → Trees
trees_built b = trees_of (map tree_view b.trees.items)

-- what it does, as the definitions have it
abbrev pub building_of : Building → Body
building_of b = building b.weight (trees_built b) (stands b.matcher)

-- its matcher came by a run from a position that fits with so many rows, and the reading has the trees that were there and those that the run gave; once they weigh too much together, without the later ones
pub record HasBuilt (batches : List Batch) (rows : ℕ) (b : Building) (w : Kept) : Type 0 where
  pub first : Trees
  pub from : Scan
  pub given : List Candidate
  pub later : Trees
  pub fits : body_fits (prims_of batches) one_member (asked_view b.plan) rows (building 0 first from) ≡ true
  pub runs : Runs (prims_of batches) (rows_order (page_rows w)) (template_of (asked_view b.plan)) from given (stands b.matcher)
  pub trees : append (trees_built b) later ≡ append first (trees_of (built_trees given))
  pub all : b.weight ≤ 262_144 → later ≡ no_trees
  pub onward : from.iter.place ≤ (stands b.matcher).iter.place

-- a reading builds the trees of the rows of its page
pub record Builds (batches : List Batch) (owed : Answer) (s : Subject) (b : Building) (w : Kept) : Type 0 where
  pub asked : IsAsked batches s (asked_view b.plan)
  pub keeps : KeepsRows (prims_of batches) (asked_view b.plan) s w
  pub listed : (asked_view b.plan).count ≡ false
  pub rows : TellsRows batches s (asked_view b.plan) (marks_in b.rows.items) w
  pub over : IsOver batches (template_of (asked_view b.plan)) b.matcher
  pub order : order_for batches b.plan b.matcher ≡ rows_order (page_rows w)
  pub inside : StandsIn (length (marks_in b.rows.items)) batches (template_of (asked_view b.plan)) b.matcher
  pub light : b.matcher.weight ≤ max_number
  pub built : HasBuilt batches (length (marks_in b.rows.items)) b w
  pub few : b.weight ≤ max_number
  pub owes : body_owes batches s (asked_view b.plan) w (building_of b) ≡ owed

-- ---- printing

-- what a page prints from trees and walks of ids, or how many rows it has, where they are counted
abbrev pub page_prints : List Primitive → Asked → Kept → Trees → List Walk → Result Json Path
page_prints prims q w ts walks = if q.count then Ok (count_json (length (page_rows w))) else page_shape prims q (list_of ts) walks

-- the trees of a body; of a count there are none
abbrev pub body_trees : PageBody → Trees
body_trees (page.Trees ts) = trees_view ts
body_trees (page.Count n) = no_trees

-- a page is to be printed from a body, and told with rows
pub record IsBuilt (batches : List Batch) (owed : Answer) (s : Subject) (plan : Found) (body : PageBody) (rows : List Mark) (w : Kept) : Type 0 where
  pub asked : IsAsked batches s (asked_view plan)
  pub keeps : KeepsRows (prims_of batches) (asked_view plan) s w
  pub tells : TellsRows batches s (asked_view plan) rows w
  pub fits : body_fits (prims_of batches) one_member (asked_view plan) (length rows) (printing 0 (body_trees body) []) ≡ true
  pub prints : body_print (prims_of batches) (asked_view plan) body ≡ page_prints (prims_of batches) (asked_view plan) w (body_trees body) []
  pub owes : body_owes batches s (asked_view plan) w (printing 0 (body_trees body) []) ≡ owed

-- how many rows a page has is to be printed
abbrev pub CountsRows : List Batch → Answer → Subject → Found → List Mark → Kept → Type 0
CountsRows batches owed s plan rows w = IsBuilt batches owed s plan (page.Count (length (page_rows w))) rows w

-- the page of trees is to be printed, of whatever body has these
abbrev pub PrintsTrees : List Batch → Answer → Subject → Found → Trees → List Mark → Kept → Type 0
PrintsTrees batches owed s plan ts rows w = (us : Built) → trees_view us ≡ ts → IsBuilt batches owed s plan (page.Trees us) rows w

-- a reading prints the page of a query from trees, or their count; it is told with the rows, the trees and the walks with which it began, of which places it counts no more than the trees have
pub record Prints (batches : List Batch) (owed : Answer) (s : Subject) (p : Printing) (w : Kept) : Type 0 where
  pub q : Asked
  pub asked : IsAsked batches s q
  pub keeps : KeepsRows (prims_of batches) q s w
  pub rows : TellsRows batches s q (marks_in p.rows.items) w
  pub single : p.single ≡ q.single
  pub asks : asked_of p.shape ≡ q
  pub has : shaping.trees_in p.shape ≡ list_of (trees_in p.trees)
  pub prints : page_of (prims_of batches) p.shape ≡ page_prints (prims_of batches) q w (trees_in p.trees) (walks_in p.shape)
  pub known : IsOf (prims_of batches) p.shape
  pub fits : body_fits (prims_of batches) one_member q (length (marks_in p.rows.items)) (printing 0 (trees_in p.trees) (walks_in p.shape)) ≡ true
  pub held : p.places ≤ trees_count (trees_in p.trees)
  pub low : p.places ≤ max_number
  pub walks : list_all walk_in_bounds (walks_in p.shape) ≡ true
  pub owes : body_owes batches s q w (printing 0 (trees_in p.trees) (walks_in p.shape)) ≡ owed

-- ---- all of them

-- a reading scans, or looks for the keys of a row that its scan gave
abbrev pub ScansOn : List Batch → Answer → Subject → Scanning → Kept → Type 0
ScansOn batches owed s r w = by r.found
  where
    by : Option Keying → Type 0
    by None = ScansFrom batches owed s r.plan r.matcher (scan_of r.before) w
    by (Some k) = LooksFrom batches owed s r.plan r.matcher (scan_of r.before) k w

-- a reading that goes on stands where it owes this answer
abbrev pub StageOwes : List Batch → Answer → Subject → Stage → Kept → Type 0
StageOwes batches owed s (stage.Scanning r) w = ScansOn batches owed s r w
StageOwes batches owed s (stage.Building b) w = Builds batches owed s b w
StageOwes batches owed s (stage.Printing p) w = Prints batches owed s p w
StageOwes batches owed s stage.Spent w = ⊥
