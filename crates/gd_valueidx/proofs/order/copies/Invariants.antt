use Rattle.std.proofs.Common.{◌≡◌, ◌++◌, drop}
use Rattle.gd_valueidx.proofs.order.copies.Given as goal

abbrev pub invariant-loop-run : goal.invariant-loop-run
invariant-loop-run l = l.made.items ++ drop l.run-index l.runs ≡ l.runs
