use Rattle.std.proofs.Common.{◌<◌, ℕ, List, length, take, subst, sym, ap, ◌∙◌}
use Rattle.std.specs.Prelude.{slice_get}
use Rattle.gd_prim.specs.declared.Batch.{Batch}
use Rattle.gd_prim.specs.History.{prims_of}
use Rattle.gd_store.proofs.Valued.{number_within}
use Rattle.gd_store.proofs.view.View.value_places.Goals as goal

pub returns-clause-below : goal.returns-clause-below
returns-clause-below g c k place found =
    let P : List Batch → Type 0 = λ bs. place < length (prims_of bs) in
    subst P c.self.view_is
    (number_within (prims_of (take c.self.inside.dateline c.self.inside.store.now)) c.args.number k place
    (ap (λ (ids : List ℕ). slice_get ids k) (sym c.value_places.ensures.places) ∙ found))
