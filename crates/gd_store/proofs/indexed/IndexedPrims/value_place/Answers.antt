use Rattle.std.proofs.Common.{◌≡◌, ◌<◌, ◌∙◌, ap, sym, subst, length, List, ℕ, Some}
use Rattle.std.specs.Prelude.{slice_get}
use Rattle.gd_store.specs.Valued.{places_of_number}
use Rattle.gd_store.proofs.Valued.{number_places}
use Rattle.gd_store.proofs.indexed.IndexedPrims.value_place.Goals as goal

pub value_place-requires : goal.value_place-requires
value_place-requires g c =
    subst (λ (ids : List ℕ). c.args.k < length ids)
    (ap (places_of_number c.args.number) (sym c.self.view_is) ∙ sym (number_places c.self.inside.indexes.values c.self.inside.prims c.args.number c.self.invariant.indexed.values)) c.requires

pub returns-clause-place : goal.returns-clause-place
returns-clause-place g c =
    subst (λ (ids : List ℕ). slice_get ids c.args.k ≡ Some c.value_place.result)
    (number_places c.self.inside.indexes.values c.self.inside.prims c.args.number c.self.invariant.indexed.values ∙ ap (places_of_number c.args.number) c.self.view_is) c.value_place.ensures.place
