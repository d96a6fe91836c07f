use Rattle.std.proofs.Common.{take}
use Rattle.gd_store.specs.Indexed.{AreIndexes}
use Rattle.gd_store.proofs.indexes.Indexes.enter_all.Given as goal

abbrev pub invariant-loop-place : goal.invariant-loop-place
invariant-loop-place l = AreIndexes l.self (take l.place l.prims)
