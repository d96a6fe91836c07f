use Rattle.std.proofs.Common.{◌<◌, List, length, take, subst}
use Rattle.std.specs.Prelude.{IfSome}
use Rattle.gd_prim.specs.declared.Batch.{Batch}
use Rattle.gd_prim.specs.History.{prims_of}
use Rattle.gd_store.proofs.Within.{successor_within}
use Rattle.gd_store.proofs.view.View.successor.Goals as goal

pub returns-clause-below : goal.returns-clause-below
returns-clause-below g c =
    let P : List Batch → Type 0 = λ bs. IfSome c.successor.result (λ id. id < length (prims_of bs)) in
    subst P c.self.view_is (successor_within (prims_of (take c.self.inside.dateline c.self.inside.store.now)) c.args.id c.successor.result c.successor.ensures.successor)
