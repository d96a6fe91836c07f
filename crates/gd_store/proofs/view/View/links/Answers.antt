use Rattle.std.proofs.Common.{◌<◌, ℕ, List, length, take, subst, sym, ap, ◌∙◌}
use Rattle.std.specs.Prelude.{slice_get}
use Rattle.gd_prim.specs.declared.Batch.{Batch}
use Rattle.gd_prim.specs.End.{end_of}
use Rattle.gd_prim.specs.History.{prims_of}
use Rattle.gd_prim.specs.Live.{refers}
use Rattle.gd_store.proofs.Within.{place_within}
use Rattle.gd_store.proofs.view.View.links.Goals as goal

pub returns-clause-below : goal.returns-clause-below
returns-clause-below g c k place found =
    let P : List Batch → Type 0 = λ bs. place < length (prims_of bs) in
    subst P c.self.view_is
    (place_within (λ p. refers (end_of c.args.end p) c.args.node) (prims_of (take c.self.inside.dateline c.self.inside.store.now)) k place
    (ap (λ (ids : List ℕ). slice_get ids k) (sym c.links.ensures.places) ∙ found))
