-- A run of events within what the readings have left, over a file that is told or not.
use Rattle.std.specs.Prelude.{◌≡◌, ℕ, ◌+◌, ◌≤◌, List, [], ◌∷◌, ◌++◌, Bool}
use Rattle.gd_runs.specs.Owed.{MembersOf}
use Rattle.gd_runs.specs.Explained.{Numbered}
use Rattle.gd_runs.specs.Core.{Event, State}
use Rattle.gd_runs.specs.Replay.{event_from}
use Rattle.gd_runs.specs.Pace.{DueOf, Left, Pace, LinePace}
use Rattle.gd_replay_laws.specs.Runs.{LineOver}

-- of no session more is left than is counted for it
abbrev pub AreWithin : (now counted : Left) → Type 0
AreWithin now counted = (i : ℕ) → now i ≤ counted i

-- an event that printed this reply keeps the pace: from each count that what was left is within to one that what is left now is within
abbrev pub Paces : MembersOf → DueOf → State → ℕ → Event → List ℕ → State → (now next : Left) → Type 0
Paces members d s k e reply t now next = (a : Left) → AreWithin now a → (b : Left) × Pace members d s k e reply t a b × AreWithin next b

-- a line that printed this reply does so
abbrev pub LinePaces : MembersOf → DueOf → State → ℕ → List ℕ → List ℕ → State → (now next : Left) → Type 0
LinePaces members d s k bytes reply t now next = (a : Left) → AreWithin now a → (b : Left) × LinePace members d s k (event_from bytes) reply t a b × AreWithin next b

-- lines, the first of them line k, print an output and make a state, within what the readings have left, which they take from one count to another
abbrev pub PacedRun : Bool → MembersOf → DueOf → (ℕ → Bool) → State → Left → ℕ → List Numbered → List ℕ → State → Left → Type 0
PacedRun told members d may s a k [] output t z = (output ≡ []) × (t ≡ s) × (z ≡ a)
PacedRun told members d may s a k (l ∷ ls) output t z = (reply : List ℕ) × (mid : State) × (b : Left) × (rest : List ℕ)
    × LineOver told members may s k l.bytes reply mid × LinePace members d s k (event_from l.bytes) reply mid a b × (output ≡ reply ++ 10 ∷ rest) × PacedRun told members d may mid b (k + 1) ls rest t z
