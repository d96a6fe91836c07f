-- What a reader of the code returns, beside what reading on lists gives.
use Rattle.std.specs.Prelude.{◌≡◌, ℕ, List, length, Result, Ok, Err}
use Rattle.gd_dump.specs.declared.stop.Stop.{Stop}
use Rattle.gd_dump.specs.declared.stop.Stop.TheVariants as stop

-- no text of the grammar goes on before the last so many bytes; of memory nothing is said
abbrev pub Stopped : {B : Type 0} → Stop → Result B (List ℕ) → Type 0
Stopped (stop.Bad left) (Ok x) = ⊥
Stopped (stop.Bad left) (Err rest) = left ≡ length rest
Stopped stop.Memory read = Unit {0}

-- the reader found what reading on lists gives, or stopped where that stops
abbrev pub Finds : {A B : Type 0} → (A → B) → Result B (List ℕ) → Result A Stop → Type 0
Finds view read (Ok a) = read ≡ Ok (view a)
Finds view read (Err e) = Stopped e read
