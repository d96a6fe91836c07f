use Rattle.std.proofs.Common.{◌≡◌, ◌≤◌, ◌-◌, length, take, drop}
use Rattle.gd_utf8.specs.Utf8.{utf8_from, utf8_at}
use Rattle.gd_grammar.specs.Choice.{with_front}
use Rattle.gd_codec.proofs.text.utf8.Given as goal

abbrev pub invariant-loop-at : goal.invariant-loop-at
invariant-loop-at l = record {
  within : l.at ≤ length l.bytes;
  rest : l.rest ≡ drop l.at l.bytes;
  so_far : with_front (take l.at l.bytes) (utf8_from (l.count - l.at) l.state (drop l.at l.bytes)) ≡ utf8_at l.count l.bytes;
}
