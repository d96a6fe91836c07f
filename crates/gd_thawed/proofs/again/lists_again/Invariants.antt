use Rattle.std.proofs.Common.{◌≡◌, ◌++◌, drop}
use Rattle.gd_thawed.proofs.again.lists_again.Given as goal

abbrev pub invariant-loop-trees : goal.invariant-loop-trees
invariant-loop-trees l = l.again.items ++ drop l.trees-index l.lists ≡ l.lists
