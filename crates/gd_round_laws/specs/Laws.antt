-- The laws of rounds that are served one after another: what stands before the first one, behind each, and at the end.
use Rattle.std.specs.Prelude.{◌≡◌, ℕ, ◌+◌, List, [], ◌++◌, length, Bool, IsTrue}
use Rattle.gd_prim.specs.declared.Batch.{Batch}
use Rattle.gd_prim.specs.Builtin.{builtin}
use Rattle.gd_prim.specs.WellFormed.{all_follow}
use Rattle.gd_runs.specs.Explained.{Numbered, pieces, numbered, lines_of, lines_within}
use Rattle.gd_runs.specs.Core.{State, opened}
use Rattle.gd_round_laws.specs.Rounds.{ServesRound, RoundsStand, IsAccounted, passed}

-- Before the first round, over batches that may follow one another, stands what stands between rounds.
abbrev pub RoundsBegin : Type 0
RoundsBegin = (loaded : List Batch) (may : ℕ → Bool) → IsTrue (all_follow builtin 0 loaded) → RoundsStand loaded may (opened loaded) 0 [] []

-- Where a round is served behind the lines so far, what stood before it stands after it.
abbrev pub RoundsGoOn : Type 0
RoundsGoOn = (loaded : List Batch) (may : ℕ → Bool) (s : State) (round : ℕ) (before : List Numbered) (printed : List ℕ) (given : List Numbered) (output : List ℕ) (t : State)
    → RoundsStand loaded may s round before printed → ServesRound may s (length before) round given output t → RoundsStand loaded may t (round + 1) (before ++ given) (printed ++ output)

-- What the rounds so far printed is accounted for.
abbrev pub RoundsAreAccounted : Type 0
RoundsAreAccounted = (loaded : List Batch) (may : ℕ → Bool) (s : State) (round : ℕ) (given : List Numbered) (output : List ℕ) → RoundsStand loaded may s round given output → IsAccounted loaded may s given output

-- So is what is printed where the other lines of an input are not run for want of memory.
abbrev pub RestIsPassed : Type 0
RestIsPassed = (loaded : List Batch) (may : ℕ → Bool) (s : State) (round : ℕ) (given : List Numbered) (output : List ℕ) (input : List ℕ) (rest : List Numbered)
    → RoundsStand loaded may s round given output → lines_of input ≡ given ++ rest → IsAccounted loaded may s (lines_of input) (output ++ passed (length given) (length rest))

-- Where the lines of an input are those so far and then those of the rounds from this one on, the ones so far are those of the first so many rounds.
abbrev pub FirstRoundsAreWithin : Type 0
FirstRoundsAreWithin = (loaded : List Batch) (may : ℕ → Bool) (s : State) (round : ℕ) (given : List Numbered) (output input left : List ℕ)
    → RoundsStand loaded may s round given output → lines_of input ≡ given ++ numbered round 0 (pieces [] left) → lines_within round input ≡ given
