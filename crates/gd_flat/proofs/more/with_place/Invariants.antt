use Rattle.std.proofs.Common.{◌≡◌, take}
use Rattle.gd_flat.proofs.more.with_place.Given as goal

abbrev pub invariant-loop-piece : goal.invariant-loop-piece
invariant-loop-piece l = l.pieces.items ≡ take l.piece-index l.piece-items
