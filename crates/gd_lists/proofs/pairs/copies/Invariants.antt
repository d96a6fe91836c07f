use Rattle.std.proofs.Common.{◌≡◌, ◌++◌}
use Rattle.gd_lists.proofs.pairs.copies.Given as goal

abbrev pub invariant-loop-namespace : goal.invariant-loop-namespace
invariant-loop-namespace l = l.made.entries ++ l.namespace-iterator ≡ l.texts.entries
