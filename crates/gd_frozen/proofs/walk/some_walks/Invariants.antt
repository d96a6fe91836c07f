use Rattle.std.proofs.Common.{◌≡◌, length, map}
use Rattle.gd_grammar.specs.Choice.{with_front}
use Rattle.gd_frozen.specs.FrozenAt.{all_at, one_or_more_at}
use Rattle.gd_frozen.specs.Meaning.{walk_of}
use Rattle.gd_bytes.specs.FrozenRead.{walk_at}
use Rattle.gd_frozen.proofs.walk.some_walks.Given as goal

abbrev pub invariant-loop-behind : goal.invariant-loop-behind
invariant-loop-behind l = with_front (map walk_of l.walks.items) (all_at 59 walk_at l.rest) ≡ one_or_more_at 59 walk_at l.bytes

abbrev pub decreases-loop-behind : goal.decreases-loop-behind
decreases-loop-behind l = length l.rest
