use Rattle.std.proofs.Common.{◌≡◌, ◌≤◌, ◌<◌, ◌+◌, ◌-◌, ◌*◌}
use Rattle.gd_base.specs.Counts.{Rose}
use Rattle.gd_prim.specs.History.{prims_of}
use Rattle.gd_resolve.proofs.Ways.{Led}
use Rattle.gd_resolve.proofs.up.links_up.Given as goal

abbrev pub invariant-loop-left : goal.invariant-loop-left
invariant-loop-left g l = record {
  led : Led (prims_of l.view) l.fn.object l.left l.place l.links.items;
  few : l.left ≤ 16;
  first : l.left ≡ 16 → l.place ≡ l.fn.object;
  work : l.steps ≤ l.initial.steps + 49 * (16 - l.left);
  later : l.initial.steps ≤ l.steps;
  counted : l.left < 16 → Rose l.initial.steps l.steps;
}

abbrev pub decreases-loop-left : goal.decreases-loop-left
decreases-loop-left g l = l.left
