use Rattle.std.proofs.Common.{◌≡◌, ◌++◌, drop}
use Rattle.gd_thawed.proofs.again.trees_again.Given as goal

abbrev pub invariant-loop-piece : goal.invariant-loop-piece
invariant-loop-piece l = l.again.items ++ drop l.piece-index l.pieces ≡ l.pieces
