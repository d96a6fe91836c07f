use Rattle.std.proofs.Common.{◌≡◌, None, List, sym, subst}
use Rattle.gd_prim.specs.declared.Batch.{Batch}
use Rattle.gd_prim.specs.declared.Primitive.{Primitive}
use Rattle.gd_prim.specs.History.{prims_of}
use Rattle.gd_prim.specs.Live as live
use Rattle.gd_growing.specs.Scan.{first_place}
use Rattle.gd_growing.proofs.Behind.{successor_rear}
use Rattle.gd_growing.proofs.growing.Growing.successor.Goals as goal

pub returns-in-None : goal.returns-in-None
returns-in-None c =
    let state = c.args.self.now in
    let none = subst (λ (b : List Batch). live.successor (prims_of b) c.args.place ≡ None) c.below.ensures (sym c.in-None.ensures.successor) in
    let rest = subst (λ (made : List Primitive). c.first_previous.result ≡ first_place (λ p. live.refers p.previous c.args.place) c.first_made.result made) c.made.ensures c.first_previous.ensures in
    successor_rear (prims_of state.batches) state.made c.args.place c.first_made.result c.first_previous.result none c.first_made.ensures.first rest
