use Rattle.std.proofs.Common.{◌≤◌, ℕ, List, length, subst}
use Rattle.gd_prim.specs.declared.Primitive.{Primitive}
use Rattle.gd_prim.specs.End.{places_with}
use Rattle.gd_store.proofs.indexed.IndexedPrims.most.Goals as goal

pub returns : goal.returns
returns c node =
    let short : length (places_with c.args.end node c.self.inside.prims) ≤ c.most.result =
    subst (λ (ids : List ℕ). length ids ≤ c.most.result) (c.self.invariant.indexed.links c.args.end node) (c.most.ensures node) in
    subst (λ (prims : List Primitive). length (places_with c.args.end node prims) ≤ c.most.result) c.self.view_is short
