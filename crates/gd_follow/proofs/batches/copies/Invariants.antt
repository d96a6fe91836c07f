use Rattle.std.proofs.Common.{◌≡◌, ◌++◌, drop}
use Rattle.gd_follow.proofs.batches.copies.Given as goal

abbrev pub invariant-loop-prim : goal.invariant-loop-prim
invariant-loop-prim l = l.made.items ++ drop l.prim-index l.prims ≡ l.prims
