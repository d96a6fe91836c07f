use Rattle.std.proofs.Common.{◌∙◌, ap, take, length}
use Rattle.gd_postings.specs.Postings.{ids_below}
use Rattle.gd_store.specs.Valued.{places_of_number}
use Rattle.gd_store.proofs.Valued.{number_below}
use Rattle.gd_store.proofs.indexed.IndexedPrims.values_before.Goals as goal

pub returns-clause-count : goal.returns-clause-count
returns-clause-count g c =
    c.values_before.ensures.count
    ∙ ap (λ ids. length (ids_below c.args.from ids)) (number_below c.self.inside.indexes.values c.self.inside.prims c.args.end c.args.number c.self.invariant.indexed.values)
    ∙ ap (λ prims. length (ids_below c.args.from (places_of_number c.args.number (take c.args.end prims)))) c.self.view_is
