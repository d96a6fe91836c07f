-- What a stop leaves while writes go on: the first batches of the history that they end with, and perhaps one more, which is in doubt.
use Rattle.std.specs.Prelude.{◌≡◌, ◌⊎◌, ℕ, ◌≤◌, List, [], ◌∷◌, ◌++◌, length, take, Option, Some}
use mathlib.Core.List.{IsPrefix}
use Rattle.gd_prim.specs.declared.Batch.{Batch}
use Rattle.gd_bytes.specs.File.{StandsFor}
use Rattle.gd_runs.specs.Legal.{Entry, History, batches, size}
use Rattle.gd_runs.specs.Side.{Told, kept_doubt}
use Rattle.gd_core_laws.specs.Bounds.{kept_of}

-- The new batches begin with the old ones, and the bytes stand for the first so many of the new ones, the old ones among them, or for these and one batch that is in doubt behind them.
pub record StandsForFront (old new : List Batch) (InDoubt : ℕ → Batch → Type 0) (file : List ℕ) : Type 0 where
  pub begins : IsPrefix old new
  pub count : ℕ
  pub least : length old ≤ count
  pub most : count ≤ length new
  pub stands : StandsFor file (take count new) ⊎ ((b : Batch) × InDoubt count b × StandsFor file (take count new ++ b ∷ []))

-- a batch is in doubt behind n others: that of the entry that was in doubt at first, behind all of the history then, or of a line of which it is kept that it is in doubt behind so many
abbrev pub MayCount : History → Option Entry → List Told → ℕ → Batch → Type 0
MayCount h doubt outcomes n b = (e : Entry) × (e.batch ≡ b) × (((doubt ≡ Some e) × (n ≡ size h)) ⊎ (kept_of outcomes e.line ≡ Some (kept_doubt n)))

-- The bytes stand for a front of a history that has all of an earlier one, or for that and one batch that is in doubt behind it, by what was in doubt at first and what is kept since.
abbrev pub StandsBetween : History → Option Entry → History → List Told → List ℕ → Type 0
StandsBetween h doubt g outcomes file = StandsForFront (batches h) (batches g) (MayCount h doubt outcomes) file

-- from one history, group in doubt and outcomes to others: batches and outcomes were appended, and the group that is in doubt then is told
pub record GrowsTold (h : History) (doubt : Option Entry) (outcomes : List Told) (g : History) (doubt_now : Option Entry) (outcomes_now : List Told) : Type 0 where
  pub grown : IsPrefix (batches h) (batches g)
  pub kept : IsPrefix outcomes outcomes_now
  pub doubted : (e : Entry) → doubt_now ≡ Some e → MayCount h doubt outcomes_now (size g) e.batch
