use Rattle.std.proofs.Common.{◌≡◌, ◌++◌, List, length}
use Rattle.gd_prim.specs.declared.Batch.{Batch}
use Rattle.gd_dump.specs.Progress.{Runs}
use Rattle.gd_dump.proofs.progress.Progress.run.Given as goal

abbrev pub invariant-loop-batch : goal.invariant-loop-batch
invariant-loop-batch l = (more : List Batch) × (l.given.items ≡ l.fn.given.items ++ more) × Runs l.fn.self l.self l.bytes l.rest more

abbrev pub decreases-loop-batch : goal.decreases-loop-batch
decreases-loop-batch l = length l.rest
