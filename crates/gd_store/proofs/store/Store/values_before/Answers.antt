use Rattle.std.proofs.Common.{◌∙◌, ap, length}
use Rattle.gd_postings.specs.Postings.{ids_below}
use Rattle.gd_store.specs.Valued.{places_of_number}
use Rattle.gd_store.proofs.Stored.{front_at}
use Rattle.gd_store.proofs.store.Store.values_before.Goals as goal

pub returns-clause-count : goal.returns-clause-count
returns-clause-count g c =
    c.values_before.ensures.count ∙ ap (λ prims. length (ids_below c.args.from (places_of_number c.args.number prims)))
    (front_at c.self.inside.prims c.self.inside.requests.items c.self.inside.text c.args.self.now c.end.result c.args.dateline c.self.invariant c.self.view_is c.end.ensures)
