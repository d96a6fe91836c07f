use Rattle.std.proofs.Common.{rules}
use Rattle.std.specs.Map.{keys_of}
use Rattle.std.proofs.lemmas.List.Sorted.{IsPartitionPoint-from_clause}
use Rattle.gd_valueidx.specs.Runs.{stands}
use Rattle.gd_valueidx.proofs.order.numbers_before.Goals as goal

pub returns : goal.returns
returns c = (
  c.partition_point.ensures.bound,
  IsPartitionPoint-from_clause (stands (keys_of c.args.values.now.entries) c.args.value.now c.args.with) _ _ c.partition_point.ensures.partitioned c.requires (λ a r q k. search rules),
)
