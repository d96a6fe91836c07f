use Rattle.std.proofs.Common.{◌<◌, List, length, take, subst}
use Rattle.std.specs.Prelude.{IfSome}
use Rattle.gd_prim.specs.declared.Batch.{Batch}
use Rattle.gd_prim.specs.History.{prims_of}
use Rattle.gd_store.specs.Keys.{is_key_of}
use Rattle.gd_store.proofs.Within.{kth_within}
use Rattle.gd_store.proofs.view.View.key_at.Goals as goal

pub returns-clause-below : goal.returns-clause-below
returns-clause-below g c =
    let P : List Batch → Type 0 = λ bs. IfSome c.key_of.result (λ id. id < length (prims_of bs)) in
    subst P c.self.view_is (kth_within (is_key_of c.args.object) (prims_of (take c.self.inside.dateline c.self.inside.store.now)) c.args.k c.key_of.result c.key_of.ensures.place)
