use Rattle.std.proofs.Common.{◌≡◌, ◌++◌, flat_map, drop}
use Rattle.std.specs.List.{AllByRecursion}
use Rattle.gd_bytes.specs.Group.{batch_bytes, BatchFits}
use Rattle.gd_codec.specs.Writable.{BatchMay}
use Rattle.gd_codec.proofs.write.write_batches.Given as goal

abbrev pub invariant-loop-batch : goal.invariant-loop-batch
invariant-loop-batch l = record {
  may : AllByRecursion BatchMay (drop l.batch-index l.batches);
  so_far : l.out.items ++ flat_map batch_bytes (drop l.batch-index l.batches) ≡ l.fn.out.items ++ flat_map batch_bytes l.batches;
  fits : AllByRecursion BatchFits (drop l.batch-index l.batches) → AllByRecursion BatchFits l.batches;
}
