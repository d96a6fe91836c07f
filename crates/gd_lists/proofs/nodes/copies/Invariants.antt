use Rattle.std.proofs.Common.{◌≡◌, ◌++◌, drop}
use Rattle.gd_lists.proofs.nodes.copies.Given as goal

abbrev pub invariant-loop-list : goal.invariant-loop-list
invariant-loop-list l = l.made.items ++ drop l.list-index l.lists ≡ l.lists
