use Rattle.std.proofs.Common.{◌≡◌, ◌≤◌, ◌+◌, length}
use Rattle.gd_bytes.specs.Group.{spelling}
use Rattle.gd_follow.specs.Asks.{run_of}
use Rattle.gd_follow.proofs.asking.longest.Given as goal

abbrev pub invariant-loop-count : goal.invariant-loop-count
invariant-loop-count l = record {
  within : l.from + l.count ≤ length l.store;
  total : l.total ≡ length (spelling (run_of l.store l.from l.count));
  small : l.total ≤ 500000;
}
