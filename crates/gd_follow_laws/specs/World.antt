-- A primary whose list grows, a node that follows it, and the answers that it ever gave, which reach the node again and in any order.
use Rattle.std.specs.Prelude.{◌≡◌, ◌⊎◌, ℕ, zero, suc, List, [], ◌∷◌, ◌++◌, length, true, Option, Some, None, slice_get}
use Rattle.gd_prim.specs.declared.Batch.{Batch}
use Rattle.gd_prim.specs.History.{prims_of, is_history}
use Rattle.gd_prim.specs.WellFormed.{may_follow}
use Rattle.gd_follow_laws.specs.Given.{past, Outcome, taken, Comes}

-- A node: its batches, and the group that is in doubt.
pub record Node : Type 0 where
  pub list : List Batch
  pub doubt : Option (List Batch)

-- Batches from a number on: what an ask is answered.
pub record Run : Type 0 where
  pub from : ℕ
  pub group : List Batch

-- the list holds these batches from this number on
abbrev pub IsRun : List Batch → Run → Type 0
IsRun list run = (front rest : List Batch) × (list ≡ (front ++ run.group) ++ rest) × (length front ≡ run.from)

-- A primary, the node that follows it, and each answer that was ever given to an ask.
pub record World : Type 0 where
  pub primary : List Batch
  pub node : Node
  pub answers : List Run

-- what the node's list is once the doubt is ended: with the group or without it
abbrev pub Settled : Node → List Batch → Type 0
Settled node list = (list ≡ node.list) ⊎ ((more : List Batch) × (node.doubt ≡ Some more) × (list ≡ node.list ++ more))

-- the node is as it was, without a doubt
abbrev pub certain : List Batch → Node
certain list = record { list = list; doubt = None }

-- what the node is after this outcome: only what is taken is appended, or is in doubt, or found no memory
abbrev pub After : List Batch → Run → Outcome → Node → Type 0
After list run taken after = (after ≡ certain (list ++ past list run.from run.group)) ⊎ ((after ≡ record { list = list; doubt = Some (past list run.from run.group) }) ⊎ (after ≡ certain list))
After list run _ after = after ≡ certain list

-- the node answers the group by this outcome, once its doubt is ended
abbrev pub Answers : Node → Run → Outcome → Node → Type 0
Answers node run o after = (list : List Batch) × Settled node list × Comes list run.from run.group o × After list run o after

-- the node is given the group: it could not end its doubt or had no memory, and stays; or it ended its doubt and had no memory; or it answers
abbrev pub Gives : Node → Run → Node → Type 0
Gives node run after = (after ≡ node) ⊎ (((list : List Batch) × Settled node list × (after ≡ certain list)) ⊎ ((o : Outcome) × Answers node run o after))

-- the primary appends a batch that may follow
abbrev pub Grows : World → World → Type 0
Grows w v = (b : Batch) × (may_follow (prims_of w.primary) (length w.primary) b ≡ true) × (v ≡ record { primary = w.primary ++ b ∷ []; node = w.node; answers = w.answers })

-- it answers an ask by batches of its list
abbrev pub IsAsked : World → World → Type 0
IsAsked w v = (run : Run) × IsRun w.primary run × (v ≡ record { primary = w.primary; node = w.node; answers = run ∷ w.answers })

-- an answer that was ever given reaches the node
abbrev pub IsGiven : World → World → Type 0
IsGiven w v = (number : ℕ) × (run : Run) × (slice_get w.answers number ≡ Some run) × ((after : Node) × Gives w.node run after × (v ≡ record { primary = w.primary; node = after; answers = w.answers }))

-- the node stops and opens again
abbrev pub Reopens : World → World → Type 0
Reopens w v = (list : List Batch) × Settled w.node list × (v ≡ record { primary = w.primary; node = certain list; answers = w.answers })

-- one step of a world
abbrev pub Step : World → World → Type 0
Step w v = Grows w v ⊎ (IsAsked w v ⊎ (IsGiven w v ⊎ Reopens w v))

-- a world at its beginning: the primary has some history, the node is empty, and no ask was answered
abbrev pub Begins : World → Type 0
Begins w = (is_history w.primary ≡ true) × (w.node ≡ certain []) × (w.answers ≡ [])

-- a world after so many steps
abbrev pub Reached : ℕ → World → Type 0
Reached zero w = Begins w
Reached (suc n) w = (v : World) × Reached n v × Step v w
