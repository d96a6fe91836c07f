-- Lists that do not fall.
use Rattle.std.specs.Prelude.{ℕ, ◌≤◌, List, [], ◌∷◌}

-- no place of the list is less than one before it, and none less than `from`
abbrev pub SortedFrom : ℕ → List ℕ → Type 0
SortedFrom from [] = Unit {0}
SortedFrom from (x ∷ xs) = (from ≤ x) × SortedFrom x xs
