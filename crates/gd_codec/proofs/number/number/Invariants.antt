use Rattle.std.proofs.Common.{◌≡◌, ◌<◌, ◌-◌, ◌^◌}
use Rattle.gd_grammar.specs.Reading.{number_from}
use Rattle.gd_codec.proofs.number.number.Given as goal

abbrev pub invariant-loop-place : goal.invariant-loop-place
invariant-loop-place l = record {
  left : number_from l.ranges (l.size - l.place) l.n l.rest ≡ number_from l.ranges l.size 0 l.bytes;
  small : l.n < 256 ^ l.place;
}
