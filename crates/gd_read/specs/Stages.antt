-- Where a reading stands: what it does, over the batches below its dateline.
use Rattle.std.specs.Prelude.{◌≡◌, ◌+◌, ◌^◌, ◌<◌, ◌≤◌, ℕ, List, [], ◌∷◌, ◌++◌, map, take, length, slice_get, true, false, ◌||◌, Option, Some, None, IfSome, Result, Ok, if◌then◌else◌}
use Rattle.gd_prim.specs.declared.Batch.{Batch}
use Rattle.gd_prim.specs.declared.Primitive.{Primitive}
use Rattle.gd_prim.specs.History.{prims_of, AreHeld}
use Rattle.gd_tree.specs.Json.{Json}
use Rattle.gd_tree.specs.Trees.{Tree, Trees, no_trees, list_of}
use Rattle.gd_defs.specs.Asked.{Asked, asked_query}
use Rattle.gd_defs.specs.Plan.{template_of}
use Rattle.gd_defs.specs.Template.{is_answer, passes_template, tree_of, weight}
use Rattle.gd_defs.specs.Lines.{count_json}
use Rattle.gd_defs.specs.Reply.{Mark, Answer, Path, is_ambiguous}
use Rattle.gd_defs.specs.Reply as reply
use Rattle.gd_bytes.specs.Frozen.{Body, building, printing, after_in_bounds}
use Rattle.gd_runs.specs.Owed.{ScanOrder}
use Rattle.gd_runs.specs.Scanned.{scan_order}
use Rattle.gd_runs.specs.Shape.{page_shape}
use Rattle.gd_runs.specs.Thawed.{body_answer}
use Rattle.gd_runs.specs.Request.{asks_page}
use Rattle.gd_shape.specs.PassedOn.{start, rows_of, marks_of, page_rows, IsKept, window_of, page_objects, trees_among, weight_among, KeepsPage, view as tree_view, trees_view}
use Rattle.gd_roots.specs.PassedOn.{walk_left, walk_order, RowsFit}
use Rattle.gd_mql.specs.Requests.{cursor_view}
use Rattle.gd_plan.specs.Asked.{asked_view}
use Rattle.gd_plan.specs.declared.asked.Asked.{Asked as Found}
use Rattle.gd_window.specs.Kept.{Kept, HasSeen}
use Rattle.gd_shape.specs.Shaping.{page_of, body_print, IsOf, IsBodyOf}
use Rattle.gd_shape.specs.declared.shape.PageBody.{PageBody}
use Rattle.gd_shape.specs.declared.shape.PageBody.TheVariants as page
use Rattle.gd_shape.specs.declared.shape.Shape.{Shape}
use Rattle.gd_read.specs.Come.{HasAll, HasCome, HasWalked, places_of}
use Rattle.gd_read.specs.Marked.{mark_of}
use Rattle.gd_read.specs.Subject.{written, answer_of}
use Rattle.gd_read.specs.declared.subject.Subject.{Subject}
use Rattle.gd_read.specs.Trying.{Tries}
use Rattle.gd_read.specs.declared.trying.Trying.{Trying}
use Rattle.gd_read.specs.declared.visiting.Visiting.{Visiting}
use Rattle.gd_read.specs.declared.gathering.Gathered.{Gathered}
use Rattle.gd_read.specs.declared.gathering.Gathering.{Gathering}
use Rattle.gd_read.specs.declared.gathering.RowGain.{RowGain}
use Rattle.gd_read.specs.declared.gathering.RowGain.TheVariants as gain
use Rattle.gd_read.specs.declared.gathering.RowsWalked.{RowsWalked}
use Rattle.gd_read.specs.declared.gathering.RowsWalked.TheVariants as walked
use Rattle.gd_read.specs.declared.stage.Stage.{Stage}
use Rattle.gd_read.specs.declared.stage.Stage.TheVariants as stage

-- ---- a query that is read

-- this is what the query asks, with few sort keys and a limit, over batches within the limits of a store; the row after which its page begins can be spelt
pub record IsAsked (batches : List Batch) (s : Subject) (q : Asked) : Type 0 where
  pub below : length batches ≡ s.dateline
  pub asked : asked_query (prims_of batches) (written s) ≡ Ok q
  pub held : AreHeld (prims_of batches)
  pub end : length (prims_of batches) ≤ 2_097_151
  pub few : length q.sort ≤ 4
  pub some : 0 < q.limit
  pub mark : after_in_bounds (mark_of s.after) ≡ true

-- the answer that a body owes with the rows that a window keeps, where it no longer scans
abbrev pub body_owes : List Batch → Subject → Asked → Kept → Body → Answer
body_owes batches s q w body = body_answer (prims_of batches) q (scan_order (prims_of batches) q) s.dateline (asks_page (cursor_view s.request.cursor)) (mark_of s.after) (marks_of w) body

-- ---- visiting places

-- the places that are not visited yet: the one that is tried, if one is, and those that are left of a walk
abbrev pub places_ahead : Option Trying → ScanOrder → List ℕ
places_ahead None left = places_of left
places_ahead (Some tried) left = tried.place ∷ places_of left

-- a reading visits the places of a walk, among which each that passes is; it has visited the first of them, and the next one may be tried; the number of the last that the walk gave is known
pub record Visits (batches : List Batch) (s : Subject) (v : Visiting) (w : Kept) : Type 0 where
  pub asked : IsAsked batches s (asked_view v.plan)
  pub finds : HasAll (prims_of batches) (template_of (asked_view v.plan)) (walk_order batches (template_of (asked_view v.plan)) v.walk)
  pub come : HasCome (prims_of batches) (asked_view v.plan) (mark_of s.after) (places_of (walk_order batches (template_of (asked_view v.plan)) v.walk)) (places_ahead v.tried (walk_left batches (template_of (asked_view v.plan)) v.walk)) w
  pub tried : IfSome v.tried (Tries batches (template_of (asked_view v.plan)))
  pub walked : HasWalked (walk_order batches (template_of (asked_view v.plan)) v.walk) (walk_left batches (template_of (asked_view v.plan)) v.walk) v.last

-- ---- the end of a scan

-- the scan of a plan has ended: the rows are kept, which are those of the page, and their trees are to be built
pub record IsScanned (batches : List Batch) (s : Subject) (plan : Found) (w : Kept) : Type 0 where
  pub asked : IsAsked batches s (asked_view plan)
  pub kept : IsKept (prims_of batches) (asked_view plan) (mark_of s.after) w
  pub keeps : KeepsPage (prims_of batches) (asked_view plan) (mark_of s.after) w
  pub fit : RowsFit (prims_of batches) (asked_view plan) w
  pub owes : body_owes batches s (asked_view plan) w (building 0 no_trees start) ≡ answer_of batches s

-- ---- gathering

-- the trees of those of objects that answer were gathered, and do not weigh too much together
pub record HasGathered (prims : List Primitive) (q : Asked) (os : List ℕ) (g : Gathered) : Type 0 where
  pub trees : map tree_view g.trees.items ≡ trees_among prims q os
  pub weighs : g.weight ≡ weight_among prims q os
  pub little : g.weight ≤ 262_144

-- an object that passes does not weigh too much
abbrev pub IsLight : List Primitive → Asked → ℕ → Type 0
IsLight prims q o = passes_template prims (template_of q) o ≡ true → weight prims (template_of q) o ≤ 65_536

-- none of objects weighs too much
abbrev pub AreLight : List Primitive → Asked → List ℕ → Type 0
AreLight prims q os = (n o : ℕ) → slice_get os n ≡ Some o → IsLight prims q o

-- each of objects answers
abbrev pub AllAnswer : List Primitive → Asked → List ℕ → Type 0
AllAnswer prims q os = (n o : ℕ) → slice_get os n ≡ Some o → is_answer prims (template_of q) o ≡ true

-- a tree is kept with those before it, which do not weigh too much with it
pub record TreeIsKept (old new : Gathered) (u : Tree) (weight : ℕ) : Type 0 where
  pub trees : map tree_view new.trees.items ≡ map tree_view old.trees.items ++ u ∷ []
  pub weighs : new.weight ≡ old.weight + weight
  pub little : new.weight ≤ 262_144

-- what keeping a tree comes to
abbrev pub TreeGains : Gathered → Gathered → Tree → ℕ → RowGain → Type 0
TreeGains old new u weight gain.Known = TreeIsKept old new u weight
TreeGains old new u weight gain.Heavy = 262_144 < old.weight + weight
TreeGains old new u weight gain.Open = ⊥

-- what a row comes to: with those before it its tree is kept, if it answers, or they weigh too much; or nothing is known of it
abbrev pub RowGains : List Primitive → Asked → ℕ → Gathered → Gathered → RowGain → Type 0
RowGains prims q o old new gain.Known = (is_answer prims (template_of q) o ≡ true → TreeIsKept old new (tree_of prims (template_of q) o) (weight prims (template_of q) o)) × (is_answer prims (template_of q) o ≡ false → new ≡ old)
RowGains prims q o old new gain.Heavy = (is_answer prims (template_of q) o ≡ true) × (262_144 < old.weight + weight prims (template_of q) o)
RowGains prims q o old new gain.Open = new ≡ old

-- an object is that of the next row, whose number is one of a list in memory
pub record RowIsNext (os : List ℕ) (next o : ℕ) : Type 0 where
  pub at : slice_get os next ≡ Some o
  pub few : next < 2 ^ 63

-- how far a walk over rows came that has gathered the first of them
abbrev pub RowsCome : List Primitive → Asked → List ℕ → ℕ → Gathered → RowsWalked → Type 0
RowsCome prims q os next g walked.All = HasGathered prims q (take next os) g × (slice_get os next ≡ None)
RowsCome prims q os next g (walked.Crowded o) = HasGathered prims q (take next os) g × RowIsNext os next o
RowsCome prims q os next g walked.Heavy = 262_144 < weight_among prims q (take (next + 1) os)
RowsCome prims q os next g walked.Unfinished = HasGathered prims q (take next os) g

-- a matcher tries the next row
pub record RowTries (batches : List Batch) (q : Asked) (os : List ℕ) (next : ℕ) (r : Trying) : Type 0 where
  pub row : RowIsNext os next r.place
  pub tries : Tries batches (template_of q) r

-- the trees of the first rows were gathered, and the next one is tried, if a matcher is at work
pub record GathersRows (batches : List Batch) (g : Gathering) (os : List ℕ) : Type 0 where
  pub has : HasGathered (prims_of batches) (asked_view g.plan) (take g.next os) g.gathered
  pub tries : IfSome g.tried (λ r. RowTries batches (asked_view g.plan) os g.next r)

-- how far it came, where a row may be tried
abbrev pub RowsGo : List Batch → Gathering → List ℕ → RowsWalked → Type 0
RowsGo batches g os walked.All = GathersRows batches g os × (slice_get os g.next ≡ None)
RowsGo batches g os (walked.Crowded o) = GathersRows batches g os × RowIsNext os g.next o
RowsGo batches g os walked.Heavy = 262_144 < weight_among (prims_of batches) (asked_view g.plan) (take (g.next + 1) os)
RowsGo batches g os walked.Unfinished = GathersRows batches g os

-- the scan of a reading has ended, and the trees of the first rows of its page were gathered
pub record Gathers (batches : List Batch) (s : Subject) (g : Gathering) (w : Kept) : Type 0 where
  pub scanned : IsScanned batches s g.plan w
  pub listed : (asked_view g.plan).count ≡ false
  pub rows : GathersRows batches g (page_objects w)

-- ---- printing

-- what a page prints from trees, or how many rows it has, where they are counted
abbrev pub page_prints : List Primitive → Asked → Kept → Trees → Result Json Path
page_prints prims q w ts = if q.count then Ok (count_json (length (page_rows w))) else page_shape prims q (list_of ts) []

-- the trees of a body; of a count there are none
abbrev pub body_trees : PageBody → Trees
body_trees (page.Trees ts) = trees_view ts
body_trees (page.Count n) = no_trees

-- a body is a count, or it has the trees of the page, which is not too wide
abbrev pub HasPage : List Primitive → Asked → Option Mark → PageBody → Type 0
HasPage prims q after (page.Trees ts) = ((q.count || reply.is_too_wide prims q after) ≡ false) × IsBodyOf prims q (reply.page prims q after) (page.Trees ts)
HasPage prims q after (page.Count n) = Unit {0}

-- a page is to be printed from a body; it may still be built anew
pub record IsBuilt (batches : List Batch) (s : Subject) (plan : Found) (body : PageBody) (w : Kept) : Type 0 where
  pub asked : IsAsked batches s (asked_view plan)
  pub kept : IsKept (prims_of batches) (asked_view plan) (mark_of s.after) w
  pub fit : RowsFit (prims_of batches) (asked_view plan) w
  pub begun : body_owes batches s (asked_view plan) w (building 0 no_trees start) ≡ answer_of batches s
  pub has : HasPage (prims_of batches) (asked_view plan) (mark_of s.after) body
  pub prints : body_print (prims_of batches) (asked_view plan) body ≡ page_prints (prims_of batches) (asked_view plan) w (body_trees body)
  pub owes : body_owes batches s (asked_view plan) w (printing 0 (body_trees body) []) ≡ answer_of batches s

-- a reading prints the page of a query from trees, or their count, and owes its answer; the page may still be built anew
pub record Prints (batches : List Batch) (s : Subject) (shape : Shape) (w : Kept) : Type 0 where
  pub q : Asked
  pub trees : Trees
  pub asked : IsAsked batches s q
  pub kept : IsKept (prims_of batches) q (mark_of s.after) w
  pub fit : RowsFit (prims_of batches) q w
  pub begun : body_owes batches s q w (building 0 no_trees start) ≡ answer_of batches s
  pub one : is_ambiguous q.single (length (rows_of w)) ≡ false
  pub prints : page_of (prims_of batches) shape ≡ page_prints (prims_of batches) q w trees
  pub known : IsOf (prims_of batches) shape
  pub owes : body_owes batches s q w (printing 0 trees []) ≡ answer_of batches s

-- ---- all of them

-- a reading that goes on stands where it owes its answer
abbrev pub StageOwes : List Batch → Subject → Stage → Kept → Type 0
StageOwes batches s (stage.Visiting v) w = Visits batches s v w
StageOwes batches s (stage.Gathering g) w = Gathers batches s g w
StageOwes batches s (stage.Printing shape) w = Prints batches s shape w
StageOwes batches s stage.Spent w = ⊥

-- a reading of a plan may begin with this stage, where its window has seen nothing
abbrev pub StageBegins : List Batch → Found → Stage → Type 0
StageBegins batches plan st = (s : Subject) (w : Kept) → IsAsked batches s (asked_view plan) → w ≡ window_of (prims_of batches) (asked_view plan) (mark_of s.after) [] → HasSeen w [] → StageOwes batches s st w
