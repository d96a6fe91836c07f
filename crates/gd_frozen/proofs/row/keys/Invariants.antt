use Rattle.std.proofs.Common.{◌≡◌, ◌-◌, length}
use Rattle.gd_bytes.specs.Cursor.{place_at}
use Rattle.gd_grammar.specs.Grammar.{more_at}
use Rattle.gd_grammar.specs.Choice.{with_front}
use Rattle.gd_frozen.proofs.row.keys.Given as goal

abbrev pub invariant-loop-place : goal.invariant-loop-place
invariant-loop-place l = record {
  count : length l.places ≡ l._place;
  left : with_front l.places (more_at (4 - l._place) 44 place_at l.rest) ≡ more_at 4 44 place_at l.bytes;
}
