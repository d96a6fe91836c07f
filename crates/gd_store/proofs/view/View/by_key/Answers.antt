use Rattle.std.proofs.Common.{◌<◌, List, length, take, subst}
use Rattle.std.specs.Prelude.{IfSome}
use Rattle.gd_prim.specs.declared.Batch.{Batch}
use Rattle.gd_prim.specs.History.{prims_of}
use Rattle.gd_store.specs.Keys.{is_key_link}
use Rattle.gd_store.proofs.Within.{last_within}
use Rattle.gd_store.proofs.view.View.by_key.Goals as goal

pub returns-clause-below : goal.returns-clause-below
returns-clause-below g c =
    let P : List Batch → Type 0 = λ bs. IfSome c.last_key_link.result (λ id. id < length (prims_of bs)) in
    subst P c.self.view_is (last_within (is_key_link c.args.namespace c.args.key.now) (prims_of (take c.self.inside.dateline c.self.inside.store.now)) c.last_key_link.result c.last_key_link.ensures.last)
