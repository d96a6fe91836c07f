use Rattle.std.proofs.Common.{◌≡◌, ◌-◌, ◌≤◌, length, take}
use Rattle.gd_log.proofs.stored.withdraw.Given as goal

abbrev pub invariant-loop-place : goal.invariant-loop-place
invariant-loop-place l = record {
  within : l._place ≤ l.count;
  is : l.store ≡ take (length l.initial.store - l._place) l.initial.store;
}
