use Rattle.std.proofs.Common.{◌≡◌, ◌≤◌, ◌+◌, filter, drop, max}
use Rattle.gd_prim.specs.History.{prims_of}
use Rattle.gd_defs.specs.Property as defs
use Rattle.gd_read.specs.KeysAt.{is_answer_at}
use Rattle.gd_read.proofs.answers.first_of.Given as goal

abbrev pub invariant-loop-link : goal.invariant-loop-link
invariant-loop-link g l = record {
  first : defs.first (filter (is_answer_at (prims_of l.view) l.property) l.links) ≡ defs.first (filter (is_answer_at (prims_of l.view) l.property) (drop l.link-index l.links));
  within : l.steps ≤ max l.initial.steps (l.whole.before + l.whole.size + 22);
  later : l.initial.steps ≤ l.steps;
}
