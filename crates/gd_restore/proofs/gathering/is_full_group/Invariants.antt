use Rattle.std.proofs.Common.{◌≡◌, ◌+◌, length, drop, sum_by, nat_le}
use Rattle.gd_restore.proofs.gathering.is_full_group.Given as goal

abbrev pub invariant-loop-batch : goal.invariant-loop-batch
invariant-loop-batch l = nat_le 4_096 (l.prims + sum_by (λ b. length b.prims) (drop l.batch-index l.group)) ≡ nat_le 4_096 (sum_by (λ b. length b.prims) l.group)
