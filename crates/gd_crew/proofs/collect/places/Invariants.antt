use Rattle.std.proofs.Common.{◌≡◌, ◌≤◌, None, vec_len, vec_capacity}
use Rattle.std.specs.List.{AllByRecursion}
use Rattle.gd_crew.proofs.collect.places.Given as goal

abbrev pub invariant-loop-place : goal.invariant-loop-place
invariant-loop-place l = record {
  long : vec_len l.worked ≡ l._place;
  room : l.count ≤ vec_capacity l.worked;
  none : AllByRecursion (λ kept. kept ≡ None) l.worked.items;
}
