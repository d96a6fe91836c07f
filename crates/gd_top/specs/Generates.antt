-- What a run of generated requests prints, for each status.
use Rattle.std.specs.Prelude.{◌≡◌, ◌⊎◌, ℕ, List, [], ◌∷◌, ◌++◌, Bool, true, false, Option, Some}
use Rattle.std.specs.Io.KnownBytes.{Keeps, Appends}
use Rattle.gd_outside.specs.Gains.{GainsFront}
use Rattle.gd_prim.specs.declared.Batch.{Batch}
use Rattle.gd_runs.specs.Explained.{lines_of}
use Rattle.gd_gen.specs.Lines.{lines_of as generated}
use Rattle.gd_gen.specs.Summary.{summary_of}
use Rattle.gd_top.specs.declared.status.Status.{Status}
use Rattle.gd_top.specs.declared.status.Status.TheVariants as status
use Rattle.gd_top.specs.Serves.{Accounts}

-- One legal history explains this output for the lines of a number and so many nodes.
abbrev pub AnswersGenerated : (may : ℕ → Bool) → (begins : List Batch → Type 0) → (rises : ℕ → Type 0) → (number count : ℕ) → (output : List ℕ) → Type 0
AnswersGenerated may begins rises number count output = Accounts may begins (λ history runs. Unit {0}) rises (lines_of (generated number count)) output

-- The line is what an output comes to that one legal history explains for the lines of a number and so many nodes.
pub record IsSum (may : ℕ → Bool) (begins : List Batch → Type 0) (rises : ℕ → Type 0) (number count : ℕ) (line : List ℕ) : Type 0 where
  pub output : List ℕ
  pub answers : AnswersGenerated may begins rises number count output
  pub sum : summary_of output ≡ Some line

-- the sink gained such a line and a newline
pub record PrintsSum (may : ℕ → Bool) (begins : List Batch → Type 0) (rises : ℕ → Type 0) (number count : ℕ) (old new : Option (List ℕ)) : Type 0 where
  pub line : List ℕ
  pub is : IsSum may begins rises number count line
  pub gained : Appends old new (line ++ 10 ∷ [])

-- the sink gained a front of such a line and its newline
pub record PrintsSumFront (may : ℕ → Bool) (begins : List Batch → Type 0) (rises : ℕ → Type 0) (number count : ℕ) (old new : Option (List ℕ)) : Type 0 where
  pub line : List ℕ
  pub is : IsSum may begins rises number count line
  pub front : GainsFront old new (line ++ 10 ∷ [])

-- a run of generated requests that has begun ends with this status
abbrev pub is_summed : Status → Bool
is_summed status.Done = true
is_summed status.SinkFault = true
is_summed status.Memory = true
is_summed _ = false

-- A run of generated requests with this status printed the one line to which the replies come, with its newline; or a front of that where the sink failed; or nothing, where there was no memory for it or for a reply. With any other status it did not begin.
pub record PrintsSummary (s : Status) (may : ℕ → Bool) (begins : List Batch → Type 0) (rises : ℕ → Type 0) (unbegun : Type 0) (number count : ℕ) (held_old held_new : Option (List ℕ)) : Type 0 where
  pub done : s ≡ status.Done → PrintsSum may begins rises number count held_old held_new
  pub front : s ≡ status.SinkFault → PrintsSumFront may begins rises number count held_old held_new
  pub memory : s ≡ status.Memory → unbegun ⊎ Keeps held_old held_new
  pub nothing : is_summed s ≡ false → unbegun
