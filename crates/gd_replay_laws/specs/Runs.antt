-- A run of events, line by line, over a file that is told or not.
use Rattle.std.specs.Prelude.{◌≡◌, ℕ, ◌+◌, ◌<◌, ◌≤◌, List, [], ◌∷◌, ◌++◌, length, Bool, IsTrue, ◌⊎◌, Some, Ok, Err}
use Rattle.gd_runs.specs.Owed.{MembersOf}
use Rattle.gd_runs.specs.Input.{InputFault, input_fault_line}
use Rattle.gd_runs.specs.Legal.{Entry}
use Rattle.gd_runs.specs.Explained.{Numbered, entry_at, memory_line}
use Rattle.gd_runs.specs.Core.{Event, begin, slice, write, learn, freeze, thaw, reopen, State}
use Rattle.gd_runs.specs.Replay.{event_from, LacksMemory}
use Rattle.gd_replay_laws.specs.Steps.{StepOver}

-- line k prints a reply and makes a state, over a file that is told or not: it is no event, or one that is carried out, or no memory was found for it
abbrev pub LineOver : Bool → MembersOf → (ℕ → Bool) → State → ℕ → List ℕ → List ℕ → State → Type 0
LineOver told members may s k bytes reply t =
    ((f : InputFault) × (event_from bytes ≡ Err f) × (reply ≡ input_fault_line k f) × (t ≡ s))
    ⊎ (((e : Event) × (event_from bytes ≡ Ok e) × StepOver told members may s k (length bytes) e reply t)
    ⊎ ((reply ≡ memory_line k) × ((t ≡ s) ⊎ ((e : Event) × (event_from bytes ≡ Ok e) × LacksMemory s e t))))

-- lines, the first of them line k, print an output and make a state
abbrev pub RepliesOver : Bool → MembersOf → (ℕ → Bool) → State → ℕ → List Numbered → List ℕ → State → Type 0
RepliesOver told members may s k [] output t = (output ≡ []) × (t ≡ s)
RepliesOver told members may s k (l ∷ ls) output t = (reply : List ℕ) × (mid : State) × (rest : List ℕ)
    × LineOver told members may s k l.bytes reply mid × (output ≡ reply ++ 10 ∷ rest) × RepliesOver told members may mid (k + 1) ls rest t

-- the lines that a piece of the input is: none where it is blank
abbrev pub lines_at : ℕ → List ℕ → List Numbered
lines_at round [] = []
lines_at round (c ∷ cs) = record { bytes = c ∷ cs; round = round } ∷ []

-- a piece of the input, at line k if it is not blank, prints an output and makes a state
abbrev pub PieceRuns : Bool → MembersOf → (ℕ → Bool) → State → ℕ → List ℕ → List ℕ → State → Type 0
PieceRuns told members may s k piece output t = (round : ℕ) → RepliesOver told members may s k (lines_at round piece) output t

-- the session of an event is one of 64, and its budget one that there may be
abbrev pub IsBounded : Event → Type 0
IsBounded (begin i r) = i < 64
IsBounded (slice i budget) = (i < 64) × (0 < budget) × (budget ≤ 1_000_000)
IsBounded (write i w) = i < 64
IsBounded (learn i m) = i < 64
IsBounded (freeze i) = i < 64
IsBounded (thaw i r frozen) = i < 64
IsBounded reopen = Unit {0}

-- each entry, and a group in doubt, is of a line before line k
pub record AreBelow (k : ℕ) (s : State) : Type 0 where
  pub entries : (e : ℕ) (x : Entry) → entry_at s.history e ≡ Some x → x.line < k
  pub doubted : (x : Entry) → s.doubt ≡ Some x → x.line < k

-- the file is told, where one of these lines opens the store again
abbrev pub MayReopen : Bool → List Numbered → Type 0
MayReopen told [] = Unit {0}
MayReopen told (l ∷ ls) = (event_from l.bytes ≡ Ok reopen → IsTrue told) × MayReopen told ls
