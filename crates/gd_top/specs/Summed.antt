-- What is printed of an output, on the way.
use Rattle.std.specs.Prelude.{◌≡◌, ℕ, List, [], ◌∷◌, ◌++◌, true, Option, Some}
use Rattle.std.specs.Io.KnownBytes.{Appends}
use Rattle.gd_outside.specs.Gains.{GainsFront}
use Rattle.gd_top.specs.declared.status.Status.{Status}
use Rattle.gd_top.specs.declared.status.Status.TheVariants as status
use Rattle.gd_top.specs.Generates.{is_summed}

-- With this status the line that an output comes to was printed, with its newline, or a front of that, or nothing.
pub record SumsOutput (s : Status) (sum : Option (List ℕ)) (untouched : Type 0) (old new : Option (List ℕ)) : Type 0 where
  pub done : s ≡ status.Done → (line : List ℕ) × (sum ≡ Some line) × Appends old new (line ++ 10 ∷ [])
  pub front : s ≡ status.SinkFault → (line : List ℕ) × (sum ≡ Some line) × GainsFront old new (line ++ 10 ∷ [])
  pub memory : s ≡ status.Memory → untouched
  pub ends : is_summed s ≡ true
