-- What was read as pieces are the pieces of trees.
use Rattle.std.proofs.Common.{◌≡◌, ◌∙◌, sym, ap, ℕ, List, Ok}
use Rattle.gd_frozen.specs.declared.tree.Piece.{Piece}
use Rattle.gd_frozen.specs.declared.tree.At.TheVariants as at
use Rattle.gd_frozen.specs.Pieces.{trees_pieces, trees_in, run}
use Rattle.gd_frozen.proofs.TreeReads.{trees_back}
use Rattle.gd_frozen.proofs.TreesSteady.{inner_found}

pub flat : (bytes : List ℕ) (ps : List Piece) (rest : List ℕ) → run at.Items 0 bytes ≡ Ok (ps, rest) → trees_pieces (trees_in ps) ≡ ps
flat bytes ps rest is = let (w, i, split) = inner_found bytes ps rest is in ap (λ (l : List Piece). trees_pieces (trees_in l)) i.pieces ∙ ap trees_pieces (trees_back i.trees) ∙ sym i.pieces
