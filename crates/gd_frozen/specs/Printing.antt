-- The text of trees from their pieces, one after another.
use Rattle.std.specs.Prelude.{ℕ, List, [], ◌∷◌, ◌++◌, codes, decimal}
use Rattle.gd_frozen.specs.declared.tree.Piece.{Piece}
use Rattle.gd_frozen.specs.declared.tree.Piece.TheVariants as piece
use Rattle.gd_frozen.specs.declared.writing.Last.{Last}
use Rattle.gd_frozen.specs.declared.writing.Last.TheVariants as last

-- what stands between a piece and a place behind it
abbrev pub parted : Last → List ℕ
parted last.Opened = []
parted last.Named = codes ";"
parted last.Closed = codes ");"

-- what a piece adds behind another
abbrev pub added : Last → Piece → List ℕ
added l (piece.Place p) = parted l ++ decimal p
added last.Opened piece.Opens = codes "["
added last.Named piece.Opens = codes "(["
added last.Closed piece.Opens = codes ",["
added last.Closed piece.Closes = codes ")]"
added last.Opened piece.Closes = codes "]"
added last.Named piece.Closes = codes "]"

-- what stands behind it then
abbrev pub behind_it : Piece → Last
behind_it (piece.Place p) = last.Named
behind_it piece.Opens = last.Opened
behind_it piece.Closes = last.Closed

-- what pieces add, up to the last bracket
abbrev pub print : Last → List Piece → List ℕ
print last.Opened [] = []
print last.Named [] = []
print last.Closed [] = codes ")"
print l (p ∷ ps) = added l p ++ print (behind_it p) ps
