use Rattle.std.proofs.Common.{◌≡◌, ◌++◌, drop}
use Rattle.gd_defs.specs.Plan.{places_of}
use Rattle.gd_plan.proofs.constraint.places_of.Given as goal

abbrev pub invariant-loop-datum : goal.invariant-loop-datum
invariant-loop-datum l = l.places.items ++ places_of (drop l.datum-index l.«data») ≡ places_of l.«data»
