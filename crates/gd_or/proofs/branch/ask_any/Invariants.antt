use Rattle.std.proofs.Common.{◌≡◌, ◌+◌, ◌*◌, ◌≤◌, map, drop}
use Rattle.gd_or.specs.Or.{any_has}
use Rattle.gd_or.proofs.branch.ask_any.Given as goal

abbrev pub invariant-loop-branch : goal.invariant-loop-branch
invariant-loop-branch g l = record {
  left : any_has l.id (map (λ b. (g.I.Iter.walk b.iter).set l.world) l.branches) ≡ any_has l.id (drop l.branch-index (map (λ b. (g.I.Iter.walk b.iter).set l.world) l.branches));
  work : l.steps ≤ l.budget.before + l.budget.size + 24;
  few : l.steps ≤ l.initial.steps + 24 * l.branch-index;
  later : l.initial.steps ≤ l.steps;
}
