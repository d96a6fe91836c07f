use Rattle.std.proofs.Common.{◌≤◌, ◌∙◌, List, length, subst, sym, ap}
use Rattle.gd_prim.specs.declared.Primitive.{Primitive}
use Rattle.gd_prim.specs.End.{places_with}
use Rattle.gd_prim.specs.History.{prims_of}
use Rattle.gd_store.proofs.Stored.{all_of_batches}
use Rattle.gd_store.proofs.store.Store.most.Goals as goal

pub returns : goal.returns
returns c node =
    subst (λ (prims : List Primitive). length (places_with c.args.end node prims) ≤ c.most.result)
    (sym (all_of_batches c.self.inside.prims c.self.inside.requests.items c.self.inside.text c.self.invariant) ∙ ap prims_of c.self.view_is)
    (c.most.ensures node)
