use Rattle.std.proofs.Common.{◌≡◌, ◌≤◌, ◌++◌, take, drop}
use Rattle.gd_prim.specs.WellFormed.{bad_place, first_bad}
use Rattle.gd_prim.proofs.well_formed.is_well_formed_behind.Given as goal

abbrev pub invariant-loop-i : goal.invariant-loop-i
invariant-loop-i g l = record {
  left_decides : bad_place (g.P.Prior.prims l.prior) l.batch ≡ first_bad (g.P.Prior.prims l.prior ++ take l.i l.prims) l.batch.moment l.i (drop l.i l.prims);
  few : l.i ≤ 4_096;
}
