use Rattle.std.proofs.Common.{◌≡◌, drop}
use Rattle.gd_flat.specs.Deep.{goes_deep}
use Rattle.gd_flat.proofs.thawing.is_deep.Given as goal

abbrev pub invariant-loop-piece : goal.invariant-loop-piece
invariant-loop-piece l = goes_deep l.most 0 l.pieces ≡ goes_deep l.most l.depth (drop l.piece-index l.pieces)
