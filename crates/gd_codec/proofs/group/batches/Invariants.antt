use Rattle.std.proofs.Common.{◌≡◌, ◌-◌}
use Rattle.gd_grammar.specs.Reading.{items_at}
use Rattle.gd_codec.specs.Groups.{batch_at}
use Rattle.gd_grammar.specs.Choice.{with_front}
use Rattle.gd_codec.proofs.group.batches.Given as goal

abbrev pub invariant-loop-place : goal.invariant-loop-place
invariant-loop-place l = with_front l.batches.items (items_at batch_at (l.count - l._place) l.rest) ≡ items_at batch_at l.count l.bytes
