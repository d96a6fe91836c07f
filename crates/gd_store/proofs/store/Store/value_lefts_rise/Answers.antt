use Rattle.std.proofs.Common.{◌∙◌, List, subst, sym, ap, take}
use Rattle.gd_prim.specs.declared.Primitive.{Primitive}
use Rattle.gd_prim.specs.History.{prims_of}
use Rattle.gd_store.specs.Valued.{places_of_number}
use Rattle.gd_store.specs.Lefts.{LeftsRise}
use Rattle.gd_store.proofs.Stored.{all_of_batches}
use Rattle.gd_store.proofs.store.Store.value_lefts_rise.Goals as goal

pub returns : goal.returns
returns c rises n =
    subst (λ (prims : List Primitive). LeftsRise (take n prims) (places_of_number c.args.number (take n prims)))
    (sym (all_of_batches c.self.inside.prims c.self.inside.requests.items c.self.inside.text c.self.invariant) ∙ ap prims_of c.self.view_is)
    (c.value_lefts_rise.ensures rises n)
