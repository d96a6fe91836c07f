-- Which readings come of frozen texts.
use Rattle.std.specs.Prelude.{◌≡◌, ◌+◌, ◌≤◌, ℕ, List, length, Bool, true, false, Option, Some, None}
use Rattle.std.specs.List.{list_all}
use Rattle.gd_grammar.specs.Mark.{Mark}
use Rattle.gd_prim.specs.declared.Batch.{Batch}
use Rattle.gd_prim.specs.declared.Primitive.{Primitive}
use Rattle.gd_prim.specs.History.{prims_of}
use Rattle.gd_tree.specs.Trees.{Trees}
use Rattle.gd_defs.specs.Asked.{Asked}
use Rattle.gd_defs.specs.Plan.{template_of}
use Rattle.gd_bytes.specs.Frozen.{Scan, Walk, Body, building, printing, Frozen, max_number, walk_in_bounds}
use Rattle.gd_runs.specs.Fitting.{row_fits, trees_fit, body_fits, fits}
use Rattle.gd_runs.specs.Scanned.{scan_order}
use Rattle.gd_roots.specs.PassedOn.{StandsIn, stands, IsOver, Matcher, plain}
use Rattle.gd_match_laws.specs.Rows.{rows_order}
use Rattle.gd_plan.specs.Asked.{asked_view}
use Rattle.gd_plan.specs.declared.asked.Asked.{Asked as Found}
use Rattle.gd_trees.specs.View.{trees_view}
use Rattle.gd_trees.specs.declared.tree.Trees.{Trees as Built}
use Rattle.gd_window.specs.Kept.{Kept, HasSeen}
use Rattle.gd_suspended_laws.specs.Standing.{window_of, page_rows}
use Rattle.gd_thaw_laws.specs.Gone.{read_rows}
use Rattle.gd_thaw_laws.specs.Spelled.{one_member}
use Rattle.gd_thawed.specs.Query.{IsGoing, owed_by_text}
use Rattle.gd_thawed.specs.Stages.{StageOwes, kept_owes, order_for}
use Rattle.gd_thawed.specs.Subject.{asked_by, after_of}
use Rattle.gd_thawed.specs.declared.subject.Subject.{Subject}
use Rattle.gd_thawed.specs.declared.stage.Stage.{Stage}
use Rattle.gd_thawed.specs.declared.query.ThawedQuery.{ThawedQuery}

-- the window of a query to which the rows of marks were offered, which fit and are not too many, and no others
pub record HasKept (prims : List Primitive) (q : Asked) (s : Subject) (kept : List Mark) (w : Kept) : Type 0 where
  pub is : w ≡ window_of prims q (after_of s.after) w.rows
  pub seen : HasSeen w (read_rows prims q kept)
  pub fit : list_all (row_fits prims q) kept ≡ true
  pub few : length kept ≤ q.limit + 1

-- trees that were read are those of a text and fit a query with so many rows; none come exactly where they do not fit
abbrev pub TreesThaw : List Primitive → Asked → ℕ → Trees → Option Built → Type 0
TreesThaw prims q rows ts None = trees_fit prims q rows ts ≡ false
TreesThaw prims q rows ts (Some trees) = (trees_fit prims q rows ts ≡ true) × (trees_view trees ≡ ts)

-- a matcher goes over the rows of a window, and stands where a text with so many rows says, in place
pub record StandsAt (batches : List Batch) (plan : Found) (text : Scan) (rows : ℕ) (w : Kept) (m : Matcher) : Type 0 where
  pub stands_at : stands m ≡ plain text
  pub over : IsOver batches (template_of (asked_view plan)) m
  pub inside : StandsIn rows batches (template_of (asked_view plan)) m
  pub order : order_for batches plan m ≡ rows_order (page_rows w)
  pub light : text.weight ≤ max_number

-- a body that builds fits a query with these rows
abbrev pub BuildFits : List Batch → Asked → List Mark → ℕ → Trees → Scan → Type 0
BuildFits batches q kept weight ts text = body_fits (prims_of batches) one_member q (length kept) (building weight ts text) ≡ true

-- a body that prints fits a query with these rows, and its walks lie within the bounds of texts
pub record PrintFits (batches : List Batch) (q : Asked) (kept : List Mark) (n : ℕ) (ts : Trees) (ws : List Walk) : Type 0 where
  pub fits : body_fits (prims_of batches) one_member q (length kept) (printing n ts ws) ≡ true
  pub bounds : list_all walk_in_bounds ws ≡ true

-- a stage that stands where a body of a text does owes what that owes with the rows of the text; none comes exactly where the body does not fit
abbrev pub StageThaws : List Batch → Subject → Asked → List Mark → Body → Kept → Option Stage → Type 0
StageThaws batches s q kept body w None = body_fits (prims_of batches) one_member q (length kept) body ≡ false
StageThaws batches s q kept body w (Some stage) =
    (body_fits (prims_of batches) one_member q (length kept) body ≡ true) × StageOwes batches (kept_owes batches s q (scan_order (prims_of batches) q) kept body) s stage w

-- a reading reads what a text says of a query, at its dateline from behind the same row
pub record IsSubjectOf (q : Asked) (with_cursor : Bool) (f : Frozen) (s : Subject) : Type 0 where
  pub asked : asked_by s ≡ q
  pub cursor : s.with_cursor ≡ with_cursor
  pub dateline : s.dateline ≡ f.dateline
  pub after : after_of s.after ≡ f.after

-- a reading that is thawed reads what its text says, and owes what that owes; none comes exactly where the text does not fit
abbrev pub Thaws : List Batch → Asked → Bool → Frozen → Option ThawedQuery → Type 0
Thaws batches q with_cursor f None = fits (prims_of batches) one_member q f ≡ false
Thaws batches q with_cursor f (Some r) = (fits (prims_of batches) one_member q f ≡ true) × (IsSubjectOf q with_cursor f r.subject × IsGoing batches (owed_by_text batches q with_cursor f) r)
