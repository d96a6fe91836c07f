use Rattle.std.proofs.Common.{◌≡◌, ◌++◌, drop}
use Rattle.std.specs.Prelude.{string_bytes}
use Rattle.gd_frozen.specs.declared.writing.Last.TheVariants as last
use Rattle.gd_frozen.specs.Printing.{print}
use Rattle.gd_frozen.proofs.writing.push_pieces.Given as goal

abbrev pub invariant-loop-piece : goal.invariant-loop-piece
invariant-loop-piece l = string_bytes l.out ++ print l.last (drop l.piece-index l.pieces) ≡ string_bytes l.fn.out ++ print last.Opened l.pieces
