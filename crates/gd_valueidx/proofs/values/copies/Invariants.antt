use Rattle.std.proofs.Common.{◌≡◌, ◌++◌}
use Rattle.gd_valueidx.proofs.values.copies.Given as goal

abbrev pub invariant-loop-value : goal.invariant-loop-value
invariant-loop-value l = l.made.entries ++ l.value-iterator ≡ l.lists.entries
