use Rattle.std.proofs.Common.{◌≡◌, ◌+◌, ◌≤◌, length}
use Rattle.gd_frozen.specs.declared.tree.At.TheVariants as at
use Rattle.gd_frozen.specs.Moving.{IsSmall}
use Rattle.gd_frozen.specs.Pieces.{run, behind_pieces}
use Rattle.gd_frozen.proofs.tree.pieces_behind.Given as goal

abbrev pub invariant-loop-byte : goal.invariant-loop-byte
invariant-loop-byte l = record {
  small : IsSmall l.at;
  deep : l.depth + length l.rest ≤ length l.bytes;
  left : behind_pieces l.pieces.items (run l.at l.depth l.rest) ≡ run at.Items 0 l.bytes;
}

abbrev pub decreases-loop-byte : goal.decreases-loop-byte
decreases-loop-byte l = length l.rest
