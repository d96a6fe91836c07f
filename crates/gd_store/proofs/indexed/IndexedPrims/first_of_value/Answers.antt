use Rattle.std.proofs.Common.{◌∙◌, ap, take}
use Rattle.gd_postings.specs.Postings.{first_from}
use Rattle.gd_store.specs.Valued.{places_of_number}
use Rattle.gd_store.proofs.Valued.{number_below}
use Rattle.gd_store.proofs.indexed.IndexedPrims.first_of_value.Goals as goal

pub returns-clause-first : goal.returns-clause-first
returns-clause-first g c =
    c.first_of_value.ensures.first
    ∙ ap (first_from c.args.from) (number_below c.self.inside.indexes.values c.self.inside.prims c.args.end c.args.number c.self.invariant.indexed.values)
    ∙ ap (λ prims. first_from c.args.from (places_of_number c.args.number (take c.args.end prims))) c.self.view_is
