-- Rounds that are served to their end, or as far as a stop lets them come.
use Rattle.std.specs.Prelude.{◌≡◌, ℕ, List, [], ◌∷◌, ◌++◌, flat_map, Bool, Option, Some, slice_get}
use Rattle.gd_runs.specs.Legal.{Entry, History, batches}
use Rattle.gd_runs.specs.Explained.{Numbered, Run}
use Rattle.gd_runs.specs.Core.{State}
use Rattle.gd_runs.specs.Side.{Told, WriteLine, IsFresh, IsLeft, doubt_groups}
use Rattle.gd_bytes.specs.File.{MayStandFor}
use Rattle.gd_core_laws.specs.Writes.{CallerWrites}
use Rattle.gd_core_laws.specs.Threads.{RoundServed}

-- replies as they are printed, each with its newline
abbrev pub printed : List (List ℕ) → List ℕ
printed replies = flat_map (λ reply. reply ++ 10 ∷ []) replies

-- all lines are of this round
abbrev pub AreOf : ℕ → List Numbered → Type 0
AreOf round given = (j : ℕ) (l : Numbered) → slice_get given j ≡ Some l → l.round ≡ round

-- no entry and no group in doubt is of a write line of which nothing is kept
abbrev pub LeftAreFresh : List WriteLine → History → Option Entry → List Told → Type 0
LeftAreFresh ls h doubt outcomes = (x : ℕ) (a : WriteLine) → slice_get ls x ≡ Some a → IsLeft outcomes a.line → IsFresh h doubt a.line

-- the bytes stand for the history of a state, with all or none of the group in doubt
abbrev pub StandsForState : State → List ℕ → Type 0
StandsForState s file = MayStandFor (batches s.history) (doubt_groups s.doubt) file

-- the bytes stand for a state after some of these writes
pub record StandsAfterSome (may : ℕ → Bool) (s : State) (outcomes : List Told) (ls : List WriteLine) (file : List ℕ) : Type 0 where
  pub reached : State
  pub outs : List Told
  pub writes : CallerWrites may s outcomes ls reached outs
  pub stands : StandsForState reached file

-- the bytes stand for a state after a round of these lines
pub record StandsServed (may : ℕ → Bool) (s : State) (runs : List Run) (round : ℕ) (given : List Numbered) (file : List ℕ) : Type 0 where
  pub reached : State
  pub output : List ℕ
  pub more : List Run
  pub served : RoundServed may s runs round given output reached more
  pub stands : StandsForState reached file
