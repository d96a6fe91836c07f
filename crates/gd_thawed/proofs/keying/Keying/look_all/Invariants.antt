use Rattle.std.proofs.Common.{◌≡◌, ◌+◌, ◌≤◌}
use Rattle.gd_prim.specs.History.{prims_of}
use Rattle.gd_thawed.specs.Keying.{HasKeys}
use Rattle.gd_thawed.proofs.keying.Keying.look_all.Given as goal

abbrev pub invariant-loop-key : goal.invariant-loop-key
invariant-loop-key g l = record {
  has : HasKeys (prims_of l.view) l.asked.sort.items l.self;
  object : l.self.object ≡ l.initial.self.object;
  work : l.steps ≤ l.whole.before + l.whole.size + 29;
  later : l.whole.before ≤ l.steps;
}
