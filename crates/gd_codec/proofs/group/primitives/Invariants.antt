use Rattle.std.proofs.Common.{◌≡◌, ◌-◌}
use Rattle.gd_grammar.specs.Reading.{items_at}
use Rattle.gd_codec.specs.Groups.{primitive_at}
use Rattle.gd_grammar.specs.Choice.{with_front}
use Rattle.gd_codec.proofs.group.primitives.Given as goal

abbrev pub invariant-loop-place : goal.invariant-loop-place
invariant-loop-place l = with_front l.prims.items (items_at (primitive_at l.moment) (l.count - l._place) l.rest) ≡ items_at (primitive_at l.moment) l.count l.bytes
