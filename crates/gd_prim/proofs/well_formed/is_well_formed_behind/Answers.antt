use Rattle.std.proofs.Common.{◌∙◌, sym, length-take-le, arith}
use Rattle.gd_prim.proofs.FirstBad.{goes_on}
use Rattle.gd_prim.proofs.well_formed.is_well_formed_behind.Goals as goal

pub loop-i-preserved : goal.loop-i-preserved
loop-i-preserved g c = record {
  left_decides = c.loop-i.invariant.left_decides ∙ goes_on _ _ _ _ c.index-prims-i.result c.loop-i-test.true (sym c.index-prims-i.is) (sym c.is_well_placed.ensures.keeps ∙ c.if-not-is_well_placed.false);
  few = omega (arith, c.is_well_placed.ensures.room c.if-not-is_well_placed.false, length-take-le c.loop-i.i c.as_slice-prims.result.now c.loop-i.auto.i-end);
}
