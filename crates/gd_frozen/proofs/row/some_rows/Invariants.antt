use Rattle.std.proofs.Common.{◌≡◌, ◌-◌, map}
use Rattle.gd_bytes.specs.FrozenRead.{row_at, some_at}
use Rattle.gd_grammar.specs.Grammar.{more_at}
use Rattle.gd_grammar.specs.Choice.{with_front}
use Rattle.gd_frozen.specs.Meaning.{row_of}
use Rattle.gd_frozen.proofs.row.some_rows.Given as goal

abbrev pub invariant-loop-place : goal.invariant-loop-place
invariant-loop-place l = with_front (map row_of l.rows.items) (more_at (1000 - l._place) 59 row_at l.rest) ≡ some_at 1000 59 row_at l.bytes
