use Rattle.std.proofs.Common.{◌≡◌, ◌-◌}
use Rattle.gd_utf8.specs.Utf8.{start}
use Rattle.gd_grammar.specs.Choice.{with_front}
use Rattle.gd_tplang.specs.Written.{tail_at}
use Rattle.gd_tplang.proofs.text.tail.Given as goal

abbrev pub invariant-loop-at : goal.invariant-loop-at
invariant-loop-at l = with_front l.text.items (tail_at (4096 - l.at) l.state l.rest) ≡ tail_at 4096 start l.bytes
