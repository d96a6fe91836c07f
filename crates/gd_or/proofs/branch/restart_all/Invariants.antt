use Rattle.std.proofs.Common.{◌≡◌, ◌+◌, ◌*◌, ◌≤◌, map, take}
use Rattle.gd_iter_core.specs.Owed.{ids_from}
use Rattle.gd_or.specs.Or.{part}
use Rattle.gd_or.proofs.branch.restart_all.Given as goal

abbrev pub invariant-loop-k : goal.invariant-loop-k
invariant-loop-k g l = record {
  front : take l.k (map (λ b. part l.at (g.I.Iter.owed b.iter l.world) b.head) l.branches) ≡ take l.k (map (λ b. ids_from l.at ((g.I.Iter.walk b.iter).set l.world)) l.branches);
  sets : map (λ b. ids_from l.at ((g.I.Iter.walk b.iter).set l.world)) l.branches ≡ map (λ b. ids_from l.at ((g.I.Iter.walk b.iter).set l.world)) l.initial.branches;
  walk : map (λ b. g.I.Iter.walk b.iter) l.branches ≡ map (λ b. g.I.Iter.walk b.iter) l.initial.branches;
  work : l.steps ≤ l.initial.steps + 24 * l.k;
  later : l.initial.steps ≤ l.steps;
}
