use Rattle.std.proofs.Common.{◌≡◌, drop}
use Rattle.gd_store.specs.Short.{are_short}
use Rattle.gd_store.proofs.indexed.see_all_short.Given as goal

abbrev pub invariant-loop-prim : goal.invariant-loop-prim
invariant-loop-prim l = are_short l.prims ≡ are_short (drop l.prim-index l.prims)
