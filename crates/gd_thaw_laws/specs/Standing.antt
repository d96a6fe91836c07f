-- Which bodies stand for a reading of a query that began: laws of freezing each of its stages.
use Rattle.std.specs.Prelude.{◌≡◌, ◌+◌, ◌<◌, ◌≤◌, ℕ, List, [], ◌∷◌, ◌++◌, length, map, filter, take, nat_le, true, false, Bool, slice_get, Option, None, Some, Ok}
use Rattle.std.specs.List.{list_any, list_all}
use Rattle.std.specs.Ordering.{nat_cmp}
use Rattle.gd_prim.specs.declared.Primitive.{Primitive}
use Rattle.gd_tree.specs.Trees.{no_trees, trees_of}
use Rattle.gd_defs.specs.Query.{Query}
use Rattle.gd_defs.specs.Asked.{Asked, asked_query}
use Rattle.gd_defs.specs.Plan.{template_of}
use Rattle.gd_defs.specs.Reply.{Mark, Answer, answer}
use Rattle.gd_defs.specs.Template.{passes_template}
use Rattle.gd_bytes.specs.Frozen.{Frame, Scan, Body, scanning, building, max_number}
use Rattle.gd_runs.specs.Owed.{ScanOrder, Candidate, iter_fits, weighs_too_much}
use Rattle.gd_runs.specs.Scanned.{scan_order}
use Rattle.gd_runs.specs.Thawed.{body_answer, built_trees}
use Rattle.gd_runs.specs.Fitting.{row_fits, fits}
use Rattle.gd_match_laws.specs.PassedOn.{AreHeld, start}
use Rattle.gd_order_laws.specs.Window.{In, Apart, Rising}
use Rattle.gd_match_laws.specs.Moves.{order_from, Runs}
use Rattle.gd_window.specs.Kept.{Kept}
use Rattle.gd_suspended_laws.specs.Standing.{marks_of, page_objects, trees_among, weight_among, IsKept, HasScanned, HasVisited}
use Rattle.gd_thaw_laws.specs.Grown.{StackPlaced}
use Rattle.gd_thaw_laws.specs.Spelled.{one_member, NumbersFit}
use Rattle.gd_thaw_laws.specs.Thawing.{between}

-- a reading of a query as it is written: over primitives, at a dateline, with a cursor or without one, from behind a mark
pub record Began : Type 0 where
  pub prims : List Primitive
  pub written : Query
  pub dateline : ℕ
  pub with_cursor : Bool
  pub after : Option Mark

-- this is what its query asks, over primitives that may hold their values
pub record Asks (r : Began) (q : Asked) : Type 0 where
  pub held : AreHeld r.prims
  pub asked : asked_query r.prims r.written ≡ Ok q
  pub some : 0 < q.limit

-- the answer that a body owes with these rows, as the definitions scan
abbrev pub body_owes : Began → Asked → List Mark → Body → Answer
body_owes r q rows body = body_answer r.prims q (scan_order r.prims q) r.dateline r.with_cursor r.after rows body

-- its answer
abbrev pub its_answer : Began → Answer
its_answer r = answer r.prims r.dateline r.with_cursor r.after r.written

-- a body with these rows stands for it: it fits, with numbers within the bounds of texts, and owes its answer
pub record StandsFor (r : Began) (q : Asked) (rows : List Mark) (body : Body) : Type 0 where
  pub fitting : fits r.prims one_member q (record { dateline = r.dateline; after = r.after; rows = rows; body = body }) ≡ true
  pub numbers : NumbersFit body
  pub owes : body_owes r q rows body ≡ its_answer r

-- the rows that a window keeps fit, and are not too many
pub record RowsFit (prims : List Primitive) (q : Asked) (w : Kept) : Type 0 where
  pub each : list_all (row_fits prims q) (marks_of w) ≡ true
  pub few : length (marks_of w) ≤ q.limit + 1

-- an order has, from each place on, the candidates that the order of a query has there
abbrev pub ScansAlike : List Primitive → Asked → ScanOrder → Type 0
ScansAlike prims q order = (from : ℕ) → order_from prims (template_of q) order from ≡ order_from prims (template_of q) (scan_order prims q) from

-- an order rises and has each place once and each that passes, and scans as the definitions do
pub record IsScanOrder (prims : List Primitive) (q : Asked) (order : ScanOrder) : Type 0 where
  pub rises : Rising nat_cmp (map (λ c. c.0) order)
  pub once : Apart nat_cmp (map (λ c. c.1) order)
  pub all : (o : ℕ) → passes_template prims (template_of q) o ≡ true → In o (map (λ c. c.1) order)
  pub alike : ScansAlike prims q order

-- ---- laws

-- A reading stands where it began.
abbrev pub StartsStand : Type 0
StartsStand = (r : Began) (q : Asked) → Asks r q → StandsFor r q [] (scanning start)

-- The rows of a reading whose scan came from its start fit.
abbrev pub ScannedRowsFit : Type 0
ScannedRowsFit = (prims : List Primitive) (q : Asked) (after : Option Mark) (order : ScanOrder) (s : Scan) (w : Kept) → HasScanned prims q after order s w → RowsFit prims q w

-- Where a scan stands that came from its start, whose iterators stand in place.
abbrev pub ScansStand : Type 0
ScansStand = (r : Began) (q : Asked) (order : ScanOrder) (s : Scan) (w : Kept) → Asks r q → IsScanOrder r.prims q order → HasScanned r.prims q r.after order s w
    → iter_fits (length r.prims) 1 s.iter ≡ true → StackPlaced r.prims one_member (template_of q) s.frames → s.weight ≤ max_number → StandsFor r q (marks_of w) (scanning s)

-- Where the first places of an order were visited, and the next is at this place.
abbrev pub VisitsStand : Type 0
VisitsStand = (r : Began) (q : Asked) (order left : ScanOrder) (visited : List ℕ) (p : ℕ) (w : Kept) → Asks r q → IsScanOrder r.prims q order → map (λ c. c.1) order ≡ visited ++ map (λ c. c.1) left
    → left ≡ filter (λ c. nat_le p c.0) order → HasVisited r.prims q r.after visited w → p ≤ length r.prims → StandsFor r q (marks_of w) (scanning (between p))

-- Where the next one is tried by itself, with frames: the scan stands behind it with these.
abbrev pub TriedStand : Type 0
TriedStand = (r : Began) (q : Asked) (order left : ScanOrder) (visited : List ℕ) (place p : ℕ) (w : Kept) (m : Scan) (cs : List Candidate) (f : Frame) (fs : List Frame) → Asks r q → IsScanOrder r.prims q order
    → map (λ c. c.1) order ≡ visited ++ place ∷ map (λ c. c.1) left → left ≡ filter (λ c. nat_le p c.0) order → HasVisited r.prims q r.after visited w → p ≤ length r.prims
    → Runs r.prims ((0, place) ∷ []) (template_of q) start cs m → list_any weighs_too_much cs ≡ false → built_trees cs ≡ [] → m.frames ≡ f ∷ fs
    → StackPlaced r.prims one_member (template_of q) m.frames → m.weight ≤ max_number
    → StandsFor r q (marks_of w) (scanning (record { iter = record { place = p; accepted = None }; weight = m.weight; frames = m.frames }))

-- ---- building

-- a reading keeps the rows of its page, and owes its answer where none of their trees is built
pub record KeepsRows (r : Began) (q : Asked) (w : Kept) : Type 0 where
  pub kept : IsKept r.prims q r.after w
  pub fit : RowsFit r.prims q w
  pub owes : body_owes r q (marks_of w) (building 0 no_trees start) ≡ its_answer r

-- Where no tree is built.
abbrev pub PagesStand : Type 0
PagesStand = (r : Began) (q : Asked) (w : Kept) → KeepsRows r q w → StandsFor r q (marks_of w) (building 0 no_trees start)

-- Where the trees of the first rows are built.
abbrev pub RowsStand : Type 0
RowsStand = (r : Began) (q : Asked) (w : Kept) (n : ℕ) → KeepsRows r q w → q.count ≡ false → n ≤ length (page_objects w) → weight_among r.prims q (take n (page_objects w)) ≤ max_number
    → StandsFor r q (marks_of w) (building (weight_among r.prims q (take n (page_objects w))) (trees_of (trees_among r.prims q (take n (page_objects w)))) (between n))

-- Where the next row is tried by itself, with frames: the scan stands behind it with these.
abbrev pub TriedRowsStand : Type 0
TriedRowsStand = (r : Began) (q : Asked) (w : Kept) (n place : ℕ) (m : Scan) (cs : List Candidate) (f : Frame) (fs : List Frame) → KeepsRows r q w → q.count ≡ false → slice_get (page_objects w) n ≡ Some place
    → weight_among r.prims q (take n (page_objects w)) ≤ max_number
    → Runs r.prims ((0, place) ∷ []) (template_of q) start cs m → list_any weighs_too_much cs ≡ false → built_trees cs ≡ [] → m.frames ≡ f ∷ fs
    → StackPlaced r.prims one_member (template_of q) m.frames → m.weight ≤ max_number
    → StandsFor r q (marks_of w) (building (weight_among r.prims q (take n (page_objects w))) (trees_of (trees_among r.prims q (take n (page_objects w))))
    (record { iter = record { place = n + 1; accepted = None }; weight = m.weight; frames = m.frames }))
