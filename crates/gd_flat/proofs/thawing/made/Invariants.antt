use Rattle.std.proofs.Common.{◌≡◌, drop}
use Rattle.gd_frozen.specs.Pieces.{nothing_grown, grown}
use Rattle.gd_flat.specs.Made.{growing_of}
use Rattle.gd_flat.proofs.thawing.made.Given as goal

abbrev pub invariant-loop-piece : goal.invariant-loop-piece
invariant-loop-piece l = grown (growing_of l.growing) (drop l.piece-index l.pieces) ≡ grown nothing_grown l.pieces
