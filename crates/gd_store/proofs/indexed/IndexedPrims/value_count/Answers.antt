use Rattle.std.proofs.Common.{◌∙◌, ap, take, length}
use Rattle.gd_store.specs.Valued.{places_of_number}
use Rattle.gd_store.proofs.Valued.{number_below}
use Rattle.gd_store.proofs.indexed.IndexedPrims.value_count.Goals as goal

pub returns-clause-count : goal.returns-clause-count
returns-clause-count g c =
    c.value_count.ensures.count
    ∙ ap length (number_below c.self.inside.indexes.values c.self.inside.prims c.args.end c.args.number c.self.invariant.indexed.values)
    ∙ ap (λ prims. length (places_of_number c.args.number (take c.args.end prims))) c.self.view_is
