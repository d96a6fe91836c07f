use Rattle.std.proofs.Common.{◌∙◌, List, subst, sym, ap, take}
use Rattle.gd_prim.specs.declared.Primitive.{Primitive}
use Rattle.gd_prim.specs.History.{prims_of}
use Rattle.gd_prim.specs.End.{places_with}
use Rattle.gd_store.specs.Lefts.{LeftsRise}
use Rattle.gd_store.proofs.Stored.{all_of_batches}
use Rattle.gd_store.proofs.store.Store.lefts_rise.Goals as goal

pub returns : goal.returns
returns c rises n =
    subst (λ (prims : List Primitive). LeftsRise (take n prims) (places_with c.args.end c.args.node (take n prims)))
    (sym (all_of_batches c.self.inside.prims c.self.inside.requests.items c.self.inside.text c.self.invariant) ∙ ap prims_of c.self.view_is)
    (c.lefts_rise.ensures rises n)
