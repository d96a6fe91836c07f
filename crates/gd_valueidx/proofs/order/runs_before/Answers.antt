use Rattle.std.proofs.Common.{rules, get_or, List, ℕ}
use Rattle.std.specs.Map.{keys_of}
use Rattle.std.proofs.lemmas.List.Sorted.{IsPartitionPoint-from_clause}
use Rattle.gd_valueidx.specs.Runs.{stands}
use Rattle.gd_valueidx.proofs.order.runs_before.Goals as goal

pub returns-clause-point : goal.returns-clause-point
returns-clause-point c =
    IsPartitionPoint-from_clause (λ (run : List ℕ). stands (keys_of c.args.values.now.entries) c.args.value.now c.args.with (get_or run 0 0)) _ _ c.partition_point.ensures.partitioned c.requires (λ a r q k. search rules)
