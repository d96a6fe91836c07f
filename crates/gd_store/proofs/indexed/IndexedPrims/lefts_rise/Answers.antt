use Rattle.std.proofs.Common.{List, subst, take}
use Rattle.gd_prim.specs.declared.Primitive.{Primitive}
use Rattle.gd_prim.specs.End.{places_with}
use Rattle.gd_store.specs.Lefts.{LeftsRise}
use Rattle.gd_store.proofs.LeftEnds.{lefts_below}
use Rattle.gd_store.proofs.indexed.IndexedPrims.lefts_rise.Goals as goal

pub returns : goal.returns
returns c rises n =
    subst (λ (prims : List Primitive). LeftsRise (take n prims) (places_with c.args.end c.args.node (take n prims))) c.self.view_is
    (c.lefts_rise.ensures rises (take n c.self.inside.prims) (lefts_below c.self.inside.indexes.lefts c.self.inside.prims n c.self.invariant.indexed.lefts))
