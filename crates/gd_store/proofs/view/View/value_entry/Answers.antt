use Rattle.std.proofs.Common.{◌<◌, List, length, take, subst}
use Rattle.gd_prim.specs.declared.Batch.{Batch}
use Rattle.gd_prim.specs.History.{prims_of}
use Rattle.gd_store.proofs.Valued.{number_within}
use Rattle.gd_store.proofs.view.View.value_entry.Goals as goal

pub returns-clause-below : goal.returns-clause-below
returns-clause-below g c =
    let P : List Batch → Type 0 = λ bs. c.value_place.result < length (prims_of bs) in
    subst P c.self.view_is (number_within (prims_of (take c.self.inside.dateline c.self.inside.store.now)) c.args.number c.args.k c.value_place.result c.value_place.ensures.place)
