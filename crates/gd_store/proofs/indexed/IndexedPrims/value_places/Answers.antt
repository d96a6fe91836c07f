use Rattle.std.proofs.Common.{◌∙◌, ap, take}
use Rattle.gd_store.specs.Valued.{places_of_number}
use Rattle.gd_store.proofs.Valued.{number_below}
use Rattle.gd_store.proofs.indexed.IndexedPrims.value_places.Goals as goal

pub returns-clause-places : goal.returns-clause-places
returns-clause-places g c =
    c.value_places.ensures.places
    ∙ number_below c.self.inside.indexes.values c.self.inside.prims c.args.end c.args.number c.self.invariant.indexed.values
    ∙ ap (λ prims. places_of_number c.args.number (take c.args.end prims)) c.self.view_is
