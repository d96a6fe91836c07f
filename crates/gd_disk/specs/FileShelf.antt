-- What contracts see of the files of the operating system.
use Rattle.std.specs.Prelude.{ℕ, List, Bool, bytes_eq}
use Rattle.std.specs.List.{list_any}

-- which paths are out, and how many faults there were
pub record Opened : Type 0 where
  pub out : List (List ℕ)
  pub faults : ℕ

-- a path is one of these
abbrev pub is_among : List (List ℕ) → List ℕ → Bool
is_among paths path = list_any (λ p. bytes_eq p path) paths
