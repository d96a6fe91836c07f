use Rattle.std.proofs.Common.{◌≡◌, ◌+◌, ◌≤◌, map, take, true}
use Rattle.std.specs.List.{list_all}
use Rattle.gd_or.specs.Or.{part, is_known}
use Rattle.gd_or.proofs.branch.settle_all.Given as goal

abbrev pub invariant-loop-k : goal.invariant-loop-k
invariant-loop-k g l = record {
  owed : map (λ b. part l.place (g.I.Iter.owed b.iter l.world) b.head) l.branches ≡ map (λ b. part l.place (g.I.Iter.owed b.iter l.world) b.head) l.initial.branches;
  walk : map (λ b. g.I.Iter.walk b.iter) l.branches ≡ map (λ b. g.I.Iter.walk b.iter) l.initial.branches;
  known : list_all (λ b. is_known l.place b.head) (take l.k l.branches) ≡ true;
  work : l.steps ≤ l.budget.before + l.budget.size + 24;
  later : l.initial.steps ≤ l.steps;
}
