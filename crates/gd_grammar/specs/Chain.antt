-- One step after another, as long as none is refused.
use Rattle.std.specs.Prelude.{Result, Ok, Err}

-- what the next step gives, unless this one is refused
infixl 10 ◌>>=◌
abbrev pub ◌>>=◌ : {A B E : Type 0} → Result A E → (A → Result B E) → Result B E
(Ok x) >>= f = f x
(Err e) >>= f = Err e

-- the same outcome, with its refusal seen through a function
abbrev pub map_err : {A E F : Type 0} → (E → F) → Result A E → Result A F
map_err f (Ok x) = Ok x
map_err f (Err e) = Err (f e)
