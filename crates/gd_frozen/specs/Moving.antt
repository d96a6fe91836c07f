-- Moves of the code, as reading on lists has them.
use Rattle.std.specs.Prelude.{ℕ, ◌+◌, ◌≤◌, List, [], ◌∷◌, ◌++◌, Option, Some, None}
use Rattle.std.specs.Option.{option_to_list}
use Rattle.gd_prim.specs.Limits.{max_prims}
use Rattle.gd_frozen.specs.declared.tree.Piece.{Piece}
use Rattle.gd_frozen.specs.declared.tree.Piece.TheVariants as piece
use Rattle.gd_frozen.specs.declared.tree.At.{At}
use Rattle.gd_frozen.specs.declared.tree.At.TheVariants as at
use Rattle.gd_frozen.specs.declared.tree.Move.{Move as Made}
use Rattle.gd_frozen.specs.declared.tree.Move.TheVariants as made
use Rattle.gd_frozen.specs.Pieces.{Move, stops, ends, goes}

-- the pieces that come, a place first
abbrev pub shown : Option ℕ → Option Piece → List Piece
shown None None = []
shown None (Some p) = p ∷ []
shown (Some n) None = piece.Place n ∷ []
shown (Some n) (Some p) = piece.Place n ∷ p ∷ []

abbrev pub move_of : Made → Move
move_of made.Stops = stops
move_of (made.Ends place) = ends (shown place None)
move_of (made.Goes a d place list) = goes a d (shown place list)

-- a number that is read lies within the bound
abbrev pub IsSmall : At → Type 0
IsSmall (at.Number n) = n ≤ max_prims
IsSmall _ = Unit {0}

-- reading goes on with a number within the bound, and with one list more at most
abbrev pub MovesSmall : ℕ → Made → Type 0
MovesSmall depth (made.Goes a d place list) = IsSmall a × (d ≤ depth + 1)
MovesSmall depth _ = Unit {0}
