use Rattle.std.proofs.Common.{◌≤◌, ◌<◌, ◌+◌, ◌-◌, ◌^◌, min}
use Rattle.gd_prim.specs.History.{prims_of}
use Rattle.gd_shape.specs.Shaping.{IsOf, IsSamePage, steps_due}
use Rattle.gd_shape.proofs.shape.Shape.print_trees.Given as goal

abbrev pub invariant-loop-left : goal.invariant-loop-left
invariant-loop-left g l = record {
  of : IsOf (prims_of l.view) l.self;
  page : IsSamePage l.initial.self l.self;
  later : l.initial.steps ≤ l.steps;
  left : l.left ≤ l.budget;
  within : l.steps + l.left ≤ l.initial.steps + l.budget + 1024;
  before : 0 < l.left → l.steps + l.left ≤ l.initial.steps + l.budget;
  counted : min (l.initial.steps + (l.budget - l.left)) (2 ^ 64 - 1) ≤ l.steps;
  due : l.steps + steps_due (prims_of l.view) l.self ≤ l.initial.steps + steps_due (prims_of l.view) l.initial.self;
}

abbrev pub decreases-loop-left : goal.decreases-loop-left
decreases-loop-left g l = l.left
