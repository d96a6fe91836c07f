-- Lines that are served through the core, one after another on one thread.
use Rattle.std.specs.Prelude.{◌≡◌, ℕ, zero, suc, ◌+◌, ◌≤◌, ◌⊎◌, List, [], ◌∷◌, ◌++◌, length, Bool, Some, None, Ok, Err}
use Rattle.gd_prim.specs.declared.Batch.{Batch}
use Rattle.gd_defs.specs.Write.{WriteRequest}
use Rattle.gd_runs.specs.Owed.{MembersOf}
use Rattle.gd_runs.specs.Request.{read, write, ReadSet}
use Rattle.gd_runs.specs.Input.{InputFault, line_from, input_fault_line}
use Rattle.gd_runs.specs.Legal.{size}
use Rattle.gd_runs.specs.Explained.{Numbered, memory_line, lines_of}
use Rattle.gd_runs.specs.Core.{State, Reading, BeginStep, SliceStep, WriteStep, opened}

-- session i is told so many times that its reading is unfinished, and then has its reply
abbrev pub Slices : MembersOf → ℕ → State → ℕ → ℕ → List ℕ → State → Type 0
Slices members zero s k i line t = SliceStep members s k i line t × ((t.sessions i).reading ≡ None)
Slices members (suc n) s k i line t = (unfinished : List ℕ) × (mid : State) × (r : Reading) × SliceStep members s k i unfinished mid × ((mid.sessions i).reading ≡ Some r) × Slices members n mid k i line t

-- a read line, line k: its beginning is refused, or the reading that it begins is sliced until it has its reply
pub data ReadServed (members : MembersOf) (s : State) (k i : ℕ) (r : ReadSet) : List ℕ → State → Type 0 where
  refused : (line : List ℕ) (t : State) → BeginStep s k i r line t → (t.sessions i).reading ≡ None → ReadServed members s k i r line t
  sliced : (begun : List ℕ) (mid : State) (reading : Reading) (slices : ℕ) (line : List ℕ) (t : State) → BeginStep s k i r begun mid → (mid.sessions i).reading ≡ Some reading → Slices members slices mid k i line t
      → ReadServed members s k i r line t

-- nothing but sessions differs, and each of them has seen what it had seen, or what is shown
pub record EntersOnly (s t : State) : Type 0 where
  pub history : t.history ≡ s.history
  pub shown : t.shown ≡ s.shown
  pub doubt : t.doubt ≡ s.doubt
  pub seen : (j : ℕ) → ((t.sessions j).seen ≡ (s.sessions j).seen) ⊎ ((t.sessions j).seen ≡ s.shown)

-- line k prints a reply and makes a state: it is no line, a read, a write, or no memory was found for it
pub data LineServed (members : MembersOf) (may : ℕ → Bool) (s : State) (k : ℕ) (bytes : List ℕ) : List ℕ → State → Type 0 where
  no_line : (f : InputFault) → line_from bytes ≡ Err f → LineServed members may s k bytes (input_fault_line k f) s
  reads : (i : ℕ) (r : ReadSet) (line : List ℕ) (t : State) → line_from bytes ≡ Ok (read i r) → ReadServed members s k i r line t → LineServed members may s k bytes line t
  writes : (i : ℕ) (w : WriteRequest) (line : List ℕ) (t : State) → line_from bytes ≡ Ok (write i w) → WriteStep may s k (length bytes) i w line t → LineServed members may s k bytes line t
  lacks_memory : (t : State) → EntersOnly s t → LineServed members may s k bytes (memory_line k) t

-- between two lines entries may be shown that were not
abbrev pub Shows : State → State → Type 0
Shows s t = (n : ℕ) × (s.shown ≤ n) × (n ≤ size s.history) × (t ≡ record s { shown = n })

-- lines, the first of them line k, print an output and make a state
abbrev pub LinesServed : MembersOf → (ℕ → Bool) → State → ℕ → List Numbered → List ℕ → State → Type 0
LinesServed members may s k [] output t = (output ≡ []) × Shows s t
LinesServed members may s k (l ∷ ls) output t = (before : State) × (reply : List ℕ) × (after : State) × (rest : List ℕ)
    × Shows s before × LineServed members may before k l.bytes reply after × (output ≡ reply ++ 10 ∷ rest) × LinesServed members may after (k + 1) ls rest t

-- the lines of an input are served on a store that was opened with these batches
abbrev pub Serves : MembersOf → (ℕ → Bool) → List Batch → List ℕ → List ℕ → State → Type 0
Serves members may loaded input output t = LinesServed members may (opened loaded) 0 (lines_of input) output t
