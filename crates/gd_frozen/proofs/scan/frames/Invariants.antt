use Rattle.std.proofs.Common.{◌≡◌, length, map}
use Rattle.gd_grammar.specs.Choice.{with_front}
use Rattle.gd_frozen.specs.FrozenAt.{all_at, frame_at}
use Rattle.gd_frozen.specs.Meaning.{frame_of}
use Rattle.gd_frozen.proofs.scan.frames.Given as goal

abbrev pub invariant-loop-behind : goal.invariant-loop-behind
invariant-loop-behind l = with_front (map frame_of l.frames.items) (all_at 59 frame_at l.rest) ≡ all_at 59 frame_at l.bytes

abbrev pub decreases-loop-behind : goal.decreases-loop-behind
decreases-loop-behind l = length l.rest
