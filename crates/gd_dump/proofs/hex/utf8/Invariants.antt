use Rattle.std.proofs.Common.{◌≡◌, ◌-◌}
use Rattle.gd_grammar.specs.Choice.{with_front}
use Rattle.gd_dump_laws.specs.Reading.{hex_from, hex_to}
use Rattle.gd_dump.proofs.hex.utf8.Given as goal

abbrev pub invariant-loop-at : goal.invariant-loop-at
invariant-loop-at l = with_front l.text.items (hex_from (4096 - l.at) l.state l.mark l.rest) ≡ hex_to l.mark l.bytes
