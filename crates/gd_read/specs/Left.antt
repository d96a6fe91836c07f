-- How much is left of a reading, at most: each step that it takes lowers this by as much. It is told by the list, the query, where it stands, and the mark behind which its page begins; whoever asks names a number that no id reaches, and nothing depends on it.
use Rattle.std.specs.Prelude.{ℕ, ◌+◌, ◌*◌, ◌^◌, ◌≤◌, List, map, drop, sum_by, ◌||◌, Option, Some, None, if◌then◌else◌}
use Rattle.gd_prim.specs.declared.Batch.{Batch}
use Rattle.gd_prim.specs.declared.Primitive.{Primitive}
use Rattle.gd_prim.specs.History.{prims_of}
use Rattle.gd_defs.specs.Asked.{Asked}
use Rattle.gd_defs.specs.Rows.{Row}
use Rattle.gd_defs.specs.Reply.{Mark, page, is_too_wide}
use Rattle.gd_defs.specs.Plan.{template_of}
use Rattle.gd_defs.specs.Template.{Template}
use Rattle.gd_plan.specs.Asked.{asked_view}
use Rattle.gd_work_laws.specs.Scan.{candidate_turns}
use Rattle.gd_work_laws.specs.Reading.{place_steps, printing_most, page_most, visit_turns}
use Rattle.gd_roots.specs.PassedOn.{walk_ahead, matcher_ahead, Walk}
use Rattle.gd_shape.specs.Shaping.{shape_due}
use Rattle.gd_read.specs.Marked.{mark_of}
use Rattle.gd_read.specs.declared.trying.Trying.{Trying}
use Rattle.gd_read.specs.declared.visiting.Visiting.{Visiting}
use Rattle.gd_read.specs.declared.gathering.Gathering.{Gathering}
use Rattle.gd_read.specs.declared.gathering.RowGain.{RowGain}
use Rattle.gd_read.specs.declared.gathering.RowGain.TheVariants as gain
use Rattle.gd_read.specs.declared.gathering.RowsWalked.{RowsWalked}
use Rattle.gd_read.specs.declared.gathering.RowsWalked.TheVariants as walked
use Rattle.gd_read.specs.declared.stage.Stage.{Stage}
use Rattle.gd_read.specs.declared.stage.Stage.TheVariants as stage
use Rattle.gd_read.specs.declared.stage.Round.{Round}
use Rattle.gd_read.specs.declared.stage.Round.TheVariants as round
use Rattle.gd_read.specs.declared.query.QueryReading.{QueryReading}
use Rattle.gd_read.specs.declared.several.Part.{Part}
use Rattle.gd_read.specs.declared.several.Part.TheVariants as part
use Rattle.gd_read.specs.declared.several.SeveralReading.{SeveralReading}
use Rattle.gd_read.specs.declared.reading.Reading.{Reading}
use Rattle.gd_read.specs.declared.reading.Reading.TheVariants as reading

-- no id reaches this number
abbrev pub IsPastIds : ℕ → Type 0
IsPastIds n = 2 ^ 32 ≤ n

-- ---- what is still to begin

-- the objects of the rows of a page
abbrev pub page_places : List Primitive → Asked → Option Mark → List ℕ
page_places prims q after = map (λ (r : Row). r.object) (page prims q after)

-- the rows of these objects: each is judged, and tried
abbrev pub rows_most : List Primitive → Asked → List ℕ → ℕ
rows_most prims q os = sum_by (place_steps prims q) os

-- printing a page: nothing is printed of a count, nor of what is too wide
abbrev pub prints_most : List Primitive → Asked → Option Mark → ℕ
prints_most prims q after = if q.count || is_too_wide prims q after then 0 else printing_most prims q (page prims q after)

-- the places that a walk has yet to give: each is judged, and tried
abbrev pub walk_most : List Batch → Asked → Walk → ℕ
walk_most batches q walk = 48 * walk_ahead (visit_turns (prims_of batches) q) batches (template_of q) walk

-- ---- a stage

-- what lies ahead of the matcher, if a place is tried
abbrev pub tried_left : List Batch → Template → Option Trying → ℕ
tried_left batches t None = 0
tried_left batches t (Some tried) = 48 * matcher_ahead batches t tried.matcher + 1

-- the place that is tried, those behind it, and the page
abbrev pub visiting_left : ℕ → List Batch → Option Mark → Visiting → ℕ
visiting_left n batches after v =
    tried_left batches (template_of (asked_view v.plan)) v.tried + walk_most batches (asked_view v.plan) v.walk + 2 + page_most (prims_of batches) (asked_view v.plan) after

-- a reading that begins to try a place
abbrev pub trying_most : ℕ → List Batch → Option Mark → Visiting → ℕ → ℕ
trying_most n batches after v place =
    48 * (2 + candidate_turns (prims_of batches) (asked_view v.plan) place) + 1 + walk_most batches (asked_view v.plan) v.walk + 2 + page_most (prims_of batches) (asked_view v.plan) after

-- of a row that is tried: what lies ahead of its matcher, and one to keep its tree
abbrev pub row_left : List Batch → Asked → Trying → ℕ
row_left batches q r = 48 * matcher_ahead batches (template_of q) r.matcher + 1

-- none of it where it is known
abbrev pub gain_left : List Batch → Asked → Trying → RowGain → ℕ
gain_left batches q r gain.Known = 0
gain_left batches q r gain.Heavy = 0
gain_left batches q r gain.Open = row_left batches q r

-- of the row that is tried, if one is, and the rows behind it
abbrev pub rows_left : List Batch → Asked → List ℕ → Option Trying → ℕ → ℕ
rows_left batches q os None next = rows_most (prims_of batches) q (drop next os)
rows_left batches q os (Some r) next = row_left batches q r + rows_most (prims_of batches) q (drop (next + 1) os)

-- of a row that begins to be tried, and the rows behind it
abbrev pub crowded_left : List Batch → Asked → List ℕ → ℕ → ℕ → ℕ
crowded_left batches q os next o = 48 * (2 + candidate_turns (prims_of batches) q o) + 1 + rows_most (prims_of batches) q (drop (next + 1) os)

-- behind a walk over rows that goes on there is one more; none where it does not
abbrev pub walked_left : List Batch → Asked → List ℕ → Option Trying → ℕ → RowsWalked → ℕ
walked_left batches q os tried next walked.All = 0
walked_left batches q os tried next (walked.Crowded o) = 1 + crowded_left batches q os next o
walked_left batches q os tried next walked.Heavy = 0
walked_left batches q os tried next walked.Unfinished = 1 + rows_left batches q os tried next

-- the rows of the page that are not known yet, and printing
abbrev pub gathering_left : ℕ → List Batch → Option Mark → Gathering → ℕ
gathering_left n batches after g =
    rows_left batches (asked_view g.plan) (page_places (prims_of batches) (asked_view g.plan) after) g.tried g.next + 2 + prints_most (prims_of batches) (asked_view g.plan) after

-- ---- all of them

abbrev pub stage_left : ℕ → List Batch → Option Mark → Stage → ℕ
stage_left n batches after (stage.Visiting v) = visiting_left n batches after v
stage_left n batches after (stage.Gathering g) = gathering_left n batches after g
stage_left n batches after (stage.Printing shape) = shape_due (prims_of batches) shape
stage_left n batches after stage.Spent = 0

-- behind a round: none where it gave the answer
abbrev pub round_left : ℕ → List Batch → Option Mark → Round → ℕ
round_left n batches after (round.Answer a) = 0
round_left n batches after (round.Going next) = stage_left n batches after next

-- ---- readings

-- of the reading of one query
abbrev pub query_left : ℕ → List Batch → QueryReading → ℕ
query_left n batches r = stage_left n batches (mark_of r.subject.after) r.stage

-- of a query among others: none where it has its answer
abbrev pub part_left : ℕ → List Batch → Part → ℕ
part_left n batches (part.Going r) = query_left n batches r
part_left n batches (part.Answered request text) = 0

-- of several together
abbrev pub several_left : ℕ → List Batch → SeveralReading → ℕ
several_left n batches r = sum_by (part_left n batches) r.parts.items

-- of a reading
abbrev pub reading_left : ℕ → List Batch → Reading → ℕ
reading_left n batches (reading.One r) = query_left n batches r
reading_left n batches (reading.Several r) = several_left n batches r
