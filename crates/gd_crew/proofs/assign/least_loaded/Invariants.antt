use Rattle.std.proofs.Common.{◌<◌, length}
use Rattle.gd_crew.proofs.assign.least_loaded.Given as goal

abbrev pub invariant-loop-place : goal.invariant-loop-place
invariant-loop-place l = l.least < length l.hired
