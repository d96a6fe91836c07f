use Rattle.std.proofs.Common.{◌≡◌, List, None, Some, MatchResult, subst, sym, ap, ◌∙◌}
use Rattle.gd_prim.specs.declared.Primitive.{Primitive}
use Rattle.gd_prim.specs.History.{prims_of}
use Rattle.gd_prim.specs.WellFormed.{bad_place}
use Rattle.gd_store.proofs.Stored.{all_of_batches}
use Rattle.gd_store.proofs.store.Store.check.Goals as goal

pub returns : goal.returns
returns c =
    let P : List Primitive → Type 0 = λ prims. MatchResult c.is_well_formed_behind.result (λ _. bad_place prims c.args.batch.now ≡ None)
    (λ bad. bad_place prims c.args.batch.now ≡ Some bad.place) in
    subst P (sym (all_of_batches c.self.inside.prims c.self.inside.requests.items c.self.inside.text c.self.invariant) ∙ ap prims_of c.self.view_is) c.is_well_formed_behind.ensures
