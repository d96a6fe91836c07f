use Rattle.std.proofs.Common.{◌≡◌, ◌≤◌, ◌+◌, filter, drop}
use Rattle.gd_prim.specs.History.{prims_of}
use Rattle.gd_defs.specs.Property as defs
use Rattle.gd_thawed.specs.KeysAt.{is_answer_at}
use Rattle.gd_thawed.proofs.answers.first_of.Given as goal

abbrev pub invariant-loop-at : goal.invariant-loop-at
invariant-loop-at g l = record {
  first : defs.first (filter (is_answer_at (prims_of l.view) l.property) l.links) ≡ defs.first (filter (is_answer_at (prims_of l.view) l.property) (drop l.at l.links));
  work : l.steps ≤ l.whole.before + l.whole.size + 6;
  later : l.whole.before ≤ l.steps;
}
