use Rattle.std.proofs.Common.{◌≡◌, ◌≤◌, ◌+◌, ◌*◌, flat_map, length, drop}
use Rattle.std.specs.List.{AllByRecursion}
use Rattle.gd_bytes.specs.Group.{batch_bytes}
use Rattle.gd_codec.specs.Writable.{BatchMay}
use Rattle.gd_codec.proofs.length.group_length.Given as goal

abbrev pub invariant-loop-batch : goal.invariant-loop-batch
invariant-loop-batch l = record {
  fits : AllByRecursion BatchMay (drop l.batch-index l.batches);
  so_far : l.total + length (flat_map batch_bytes (drop l.batch-index l.batches)) ≡ 2 + length (flat_map batch_bytes l.batches);
  bound : l.total ≤ 2 + 33677322 * l.batch-index;
}
