use Rattle.std.proofs.Common.{◌≡◌, length, map}
use Rattle.gd_grammar.specs.Choice.{with_front}
use Rattle.gd_frozen.specs.FrozenAt.{all_at, one_or_more_at}
use Rattle.gd_frozen.specs.Pieces.{trees_at, trees_in}
use Rattle.gd_frozen.proofs.scan.some_lists.Given as goal

abbrev pub invariant-loop-behind : goal.invariant-loop-behind
invariant-loop-behind l = with_front (map trees_in l.lists.items) (all_at 44 trees_at l.rest) ≡ one_or_more_at 44 trees_at l.bytes

abbrev pub decreases-loop-behind : goal.decreases-loop-behind
decreases-loop-behind l = length l.rest
