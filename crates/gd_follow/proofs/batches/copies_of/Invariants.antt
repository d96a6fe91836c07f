use Rattle.std.proofs.Common.{◌≡◌, ◌++◌, drop}
use Rattle.gd_follow.proofs.batches.copies_of.Given as goal

abbrev pub invariant-loop-batch : goal.invariant-loop-batch
invariant-loop-batch l = l.made.items ++ drop l.batch-index l.batches ≡ l.batches
