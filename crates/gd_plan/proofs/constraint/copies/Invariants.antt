use Rattle.std.proofs.Common.{◌≡◌, take}
use Rattle.gd_plan.proofs.constraint.copies.Given as goal

abbrev pub invariant-loop-datum : goal.invariant-loop-datum
invariant-loop-datum l = l.copies.items ≡ take l.datum-index l.«data»
