-- The bound on the work of a query pays for what is left of its reading when it begins.
use Rattle.std.specs.Prelude.{◌≡◌, ℕ, ◌+◌, ◌≤◌, List, length, Option, None, Ok}
use Rattle.gd_prim.specs.declared.Batch.{Batch}
use Rattle.gd_prim.specs.History.{prims_of, AreHeld}
use Rattle.gd_defs.specs.Query.{Query}
use Rattle.gd_defs.specs.Asked.{Asked, asked_query}
use Rattle.gd_defs.specs.Plan.{template_of}
use Rattle.gd_defs.specs.Reply.{Mark}
use Rattle.gd_runs.specs.Request.{ReadRequest}
use Rattle.gd_runs.specs.RootSets.{RootSet}
use Rattle.gd_runs.specs.Pace as pace
use Rattle.gd_runs.specs.Work.{first_left}
use Rattle.gd_roots.specs.PassedOn.{walk_ahead, Walk}
use Rattle.gd_plan.specs.Asked.{asked_view}
use Rattle.gd_plan.specs.declared.asked.Asked.{Asked as Found}
use Rattle.gd_work_laws.specs.Scan.{IsSmallest, walk_turns}
use Rattle.gd_read.specs.Left.{stage_left, query_left, part_left}
use Rattle.gd_read.specs.Marked.{mark_of}
use Rattle.gd_read.specs.Several.{part_request}
use Rattle.gd_read.specs.Subject.{written}
use Rattle.gd_read.specs.declared.stage.Stage.{Stage}
use Rattle.gd_read.specs.declared.query.QueryReading.{QueryReading}
use Rattle.gd_read.specs.declared.several.Part.{Part}

-- a walk that begins goes over a smallest set of a query: ahead lie the turns of going over that set, so many more for each candidate, and one to find the end
pub record WalksSmallest (batches : List Batch) (q : Asked) (walk : Walk) : Type 0 where
  pub set : RootSet
  pub smallest : IsSmallest (prims_of batches) q set
  pub few : (w : ℕ → ℕ) → walk_ahead w batches (template_of q) walk ≤ walk_turns w (prims_of batches) q set + 1

-- of a reading of a plan no more is left than the bound on its work, behind whatever mark its page begins
abbrev pub StageIsPaid : List Batch → Found → Stage → Type 0
StageIsPaid batches plan st = (n : ℕ) (asking : Query) (after : Option Mark) → asked_query (prims_of batches) asking ≡ Ok (asked_view plan) → AreHeld (prims_of batches) → length (prims_of batches) ≤ 2_097_151
    → stage_left n batches after st ≤ first_left (prims_of batches) (asked_view plan) after

-- of the reading of a query, by the definitions of a run
abbrev pub QueryIsPaid : List Batch → QueryReading → Type 0
QueryIsPaid batches r = (n : ℕ) → query_left n batches r ≤ pace.query_left (prims_of batches) (mark_of r.subject.after) (asked_query (prims_of batches) (written r.subject))

-- the number of steps that a query among others has left first
abbrev pub first_among : List Batch → ReadRequest → ℕ
first_among batches r = pace.query_left (prims_of batches) None (asked_query (prims_of batches) r.query)

-- of a query among others no more is left than that
abbrev pub PartIsPaid : List Batch → Part → Type 0
PartIsPaid batches p = (n : ℕ) → part_left n batches p ≤ first_among batches (part_request p)
