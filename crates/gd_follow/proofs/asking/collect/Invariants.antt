use Rattle.std.proofs.Common.{◌≡◌}
use Rattle.gd_follow.specs.Asks.{run_of}
use Rattle.gd_follow.proofs.asking.collect.Given as goal

abbrev pub invariant-loop-place : goal.invariant-loop-place
invariant-loop-place l = l.batches.items ≡ run_of l.store l.from l.place
