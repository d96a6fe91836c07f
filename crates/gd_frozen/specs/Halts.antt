-- What a reader of the code that takes memory returns, beside what reading on lists gives.
use Rattle.std.specs.Prelude.{◌≡◌, ℕ, List, length, Result, Ok, Err}
use Rattle.gd_frozen.specs.declared.halt.Halt.{Halt}
use Rattle.gd_frozen.specs.declared.halt.Halt.TheVariants as halt

-- no text of the grammar goes on there; of memory nothing is said
abbrev pub Halts : {B : Type 0} → Halt → Result B (List ℕ) → Type 0
Halts (halt.Bad left) (Ok x) = ⊥
Halts (halt.Bad left) (Err rest) = left ≡ length rest
Halts halt.Memory read = Unit {0}

-- the reader found what reading on lists gives, or stopped where that stops, or had no memory
abbrev pub Gets : {A B : Type 0} → (A → B) → Result B (List ℕ) → Result A Halt → Type 0
Gets view read (Ok a) = read ≡ Ok (view a)
Gets view read (Err h) = Halts h read
