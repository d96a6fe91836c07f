-- One step after another, as long as each gives something.
use Rattle.std.specs.Prelude.{Option, option_and_then}

-- what the next step gives, where this one gave something
infixl 10 ◌>>=◌
abbrev pub ◌>>=◌ : {A B : Type 0} → Option A → (A → Option B) → Option B
o >>= f = option_and_then f o
