-- What a page that is being printed stands for.
use Rattle.std.specs.Prelude.{◌≡◌, ◌+◌, ◌-◌, ◌*◌, ◌<◌, ◌≤◌, ◌++◌, min, sum_by, ℕ, List, [], length, drop, take, Option, None, Some, map, Bool, true, false, if◌then◌else◌, Result, Ok, Err, IsNone}
use Rattle.gd_prim.specs.declared.Primitive.{Primitive}
use Rattle.gd_tree.specs.Json as tree
use Rattle.gd_tree.specs.Trees.{Tree, list_of, tree_count, trees_count}
use Rattle.gd_bytes.specs.Frozen.{Walk}
use Rattle.gd_defs.specs.Asked.{Asked}
use Rattle.gd_defs.specs.Plan.{template_of}
use Rattle.gd_defs.specs.Reply.{Path}
use Rattle.gd_defs.specs.Rows.{Row}
use Rattle.gd_defs.specs.Template.{tree_of}
use Rattle.gd_order_laws.specs.Window.{In}
use Rattle.gd_match_laws.specs.Walks.{rows_listed}
use Rattle.gd_plan.specs.Asked.{asked_view}
use Rattle.gd_frozen.specs.Meaning.{walk_of}
use Rattle.gd_defs.specs.Lines.{count_json}
use Rattle.gd_runs.specs.Shape.{page_shape}
use Rattle.gd_runs.specs.Shape.Ids.{page_ids}
use Rattle.gd_trees.specs.View.{view as tree_view, trees_view}
use Rattle.gd_shape.specs.Knowing.{known_at, unknown_of, walks_found, IsKnownOf}
use Rattle.gd_shape.specs.Listed.{AreAmong}
use Rattle.gd_shape.specs.Outcome.{seen, text_of}
use Rattle.gd_shape.specs.declared.shape.Shape.{Shape}
use Rattle.gd_shape.specs.declared.shape.Next.{Next}
use Rattle.gd_shape.specs.declared.shape.Next.TheVariants as next
use Rattle.gd_shape.specs.declared.shape.Wanted.{Wanted}
use Rattle.gd_shape.specs.declared.shape.Wanted.TheVariants as wanted
use Rattle.gd_shape.specs.declared.shape.PageBody.{PageBody}
use Rattle.gd_shape.specs.declared.shape.PageBody.TheVariants as body
use Rattle.gd_shape.specs.declared.shape.ShapeTurn.{ShapeTurn}
use Rattle.gd_shape.specs.declared.shape.ShapeTurn.TheVariants.{Reply, Unfinished}
use Rattle.gd_shape.specs.declared.shape.ShapeFault.{ShapeFault}
use Rattle.gd_shape.specs.declared.shape.ShapeFault.TheVariants.{NotUnique, Memory}

-- what is asked
abbrev pub asked_of : Shape → Asked
asked_of s = asked_view s.asked

-- the trees of the rows
abbrev pub trees_in : Shape → List Tree
trees_in s = map tree_view s.trees.items

-- the walks that spell the first of its ids
abbrev pub walks_in : Shape → List Walk
walks_in s = map walk_of s.walks.items

-- the walks that are told of its first ids: those with which it was started, and behind them those of the objects that follow, as far as they are known and may be told
abbrev pub walks_told : Shape → List Walk
walks_told s = walks_in s ++ walks_found s.ids (drop (length (walks_in s)) (take s.most s.objects.items))

-- a count as it prints, if one is asked, else the page
abbrev pub count_or : Option ℕ → Result tree.Json Path → Result tree.Json Path
count_or None page = page
count_or (Some n) page = Ok (count_json n)

-- what a page that is being printed prints in the end, over a list
abbrev pub page_of : List Primitive → Shape → Result tree.Json Path
page_of prims s = count_or s.count (page_shape prims (asked_of s) (trees_in s) (walks_in s))

-- what a body prints of a query, over a list, where walks tell the first of its ids: its trees, or the count
abbrev pub body_told : List Primitive → Asked → PageBody → List Walk → Result tree.Json Path
body_told prims q (body.Trees trees) ws = page_shape prims q (list_of (trees_view trees)) ws
body_told prims q (body.Count n) ws = Ok (count_json n)

-- the same where none is told
abbrev pub body_print : List Primitive → Asked → PageBody → Result tree.Json Path
body_print prims q b = body_told prims q b []

-- the trees of a body: none of a count
abbrev pub body_list : PageBody → List Tree
body_list (body.Trees trees) = list_of (trees_view trees)
body_list (body.Count n) = []

-- the places of a body: those of its trees
abbrev pub body_places : PageBody → ℕ
body_places (body.Trees trees) = trees_count (trees_view trees)
body_places (body.Count n) = 0

-- places that were counted, and those that are left to be counted, are those of trees, up to those of a page
pub record AreCounted (ts : List Tree) (printed places : ℕ) : Type 0 where
  pub left : places ≡ min (sum_by tree_count ts) 262_144 - printed
  pub held : printed ≤ sum_by tree_count ts

-- the objects whose ids the page prints, over a list
abbrev pub listed_of : List Primitive → Shape → List ℕ
listed_of prims s = rows_listed prims (asked_of s).members (trees_in s)

-- steps that are due, at most: one for each place that is still to be counted, and 785 for each object that the page prints whose id is not known
abbrev pub steps_due : List Primitive → Shape → ℕ
steps_due prims s = s.places + 785 * unknown_of s.ids (listed_of prims s)

-- the same of a page that may have come to a fault, after which none are due
abbrev pub shape_due : List Primitive → Shape → ℕ
shape_due prims s = if s.stopped then 0 else steps_due prims s

-- those of a body of a query before anything is looked at: a step for each place of its trees, and 785 for each id that they print
abbrev pub body_due : List Primitive → Asked → PageBody → ℕ
body_due prims q (body.Trees trees) = trees_count (trees_view trees) + 785 * length (rows_listed prims q.members (list_of (trees_view trees)))
body_due prims q (body.Count n) = 0

-- a body has the trees of these rows, or is a count
abbrev pub IsBodyOf : List Primitive → Asked → List Row → PageBody → Type 0
IsBodyOf prims q rows (body.Trees trees) = list_of (trees_view trees) ≡ map (λ (r : Row). tree_of prims (template_of q) r.object) rows
IsBodyOf prims q rows (body.Count n) = Unit {0}

-- the ids that were found are of this list, those that are to be found are printed, the places are counted, and the objects whose walks may be told are the first of those that are printed, no more than a text may tell
pub record IsOf (prims : List Primitive) (s : Shape) : Type 0 where
  pub known : IsKnownOf prims s.ids
  pub listed : AreAmong s.objects.items (listed_of prims s)
  pub counted : AreCounted (trees_in s) s.printed s.places
  pub first : take s.most s.objects.items ≡ take s.most (listed_of prims s)
  pub few : s.most ≤ page_ids prims (asked_of s) (trees_in s)

-- both print the same rows of the same query
pub record IsSamePage (a b : Shape) : Type 0 where
  pub asked : asked_of b ≡ asked_of a
  pub trees : trees_in b ≡ trees_in a
  pub count : b.count ≡ a.count
  pub walks : walks_in b ≡ walks_in a

-- a place is still to be counted, or the id of the object is not known
abbrev pub IsWanted : Shape → Wanted → Type 0
IsWanted s wanted.Place = 0 < s.places
IsWanted s (wanted.IdOf object) = IsNone (known_at s.ids object)

-- what is wanted is due: a place, or the id of an object that the page prints
abbrev pub IsDue : List Primitive → Shape → Wanted → Type 0
IsDue prims s wanted.Place = 0 < s.places
IsDue prims s (wanted.IdOf object) = In object (listed_of prims s)

-- what is to be looked at next is due
abbrev pub IsNextDue : List Primitive → Shape → Next → Type 0
IsNextDue prims s (next.Look wanted) = IsDue prims s wanted
IsNextDue prims s (next.Printed outcome) = Unit {0}

-- what is next is wanted, or it is the text of the page as it is expected
abbrev pub IsNext : Result tree.Json Path → Shape → Next → Type 0
IsNext expected s (next.Look wanted) = IsWanted s wanted
IsNext expected s (next.Printed outcome) = seen (λ text. text.items) outcome ≡ text_of expected

-- a slice that came to a reply tells the text of what is expected
abbrev pub Tells : Result tree.Json Path → ShapeTurn → Type 0
Tells expected (Reply text) = Ok text.items ≡ text_of expected
Tells expected Unfinished = Unit {0}

-- a path of two answers is the one that is expected
abbrev pub Refuses : Result tree.Json Path → ShapeFault → Type 0
Refuses expected (NotUnique path) = expected ≡ Err path.items
Refuses expected Memory = Unit {0}

-- a slice came to no reply
abbrev pub is_unfinished : ShapeTurn → Bool
is_unfinished (Reply text) = false
is_unfinished Unfinished = true
