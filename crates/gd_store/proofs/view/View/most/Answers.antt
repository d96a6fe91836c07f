use Rattle.std.proofs.Common.{◌≤◌, List, length, subst, arith}
use Rattle.gd_prim.specs.declared.Batch.{Batch}
use Rattle.gd_prim.specs.End.{places_with}
use Rattle.gd_prim.specs.History.{prims_of}
use Rattle.gd_store.proofs.Within.{links_fewer}
use Rattle.gd_store.proofs.view.View.most.Goals as goal

pub returns : goal.returns
returns c node =
    let fewer = links_fewer c.args.end node c.self.inside.dateline c.self.inside.store.now in
    subst (λ (bs : List Batch). length (places_with c.args.end node (prims_of bs)) ≤ c.most.result) c.self.view_is (omega (arith, fewer, c.most.ensures node))
