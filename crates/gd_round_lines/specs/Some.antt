-- Lists of which some elements were left out.
use Rattle.std.specs.Prelude.{◌≡◌, ◌⊎◌, List, [], ◌∷◌}

-- the elements of the first list are some of the second's, in their order
abbrev pub IsSomeOf : {X : Type 0} → List X → List X → Type 0
IsSomeOf xs [] = xs ≡ []
IsSomeOf {X = X} xs (y ∷ ys) = IsSomeOf xs ys ⊎ ((zs : List X) × (xs ≡ y ∷ zs) × IsSomeOf zs ys)
