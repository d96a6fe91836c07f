use Rattle.std.proofs.Common.{◌∙◌, ap}
use Rattle.gd_store.specs.Valued.{places_of_number}
use Rattle.gd_store.proofs.Stored.{front_at}
use Rattle.gd_store.proofs.store.Store.value_places.Goals as goal

pub returns-clause-places : goal.returns-clause-places
returns-clause-places g c =
    c.value_places.ensures.places ∙ ap (places_of_number c.args.number)
    (front_at c.self.inside.prims c.self.inside.requests.items c.self.inside.text c.args.self.now c.end.result c.args.dateline c.self.invariant c.self.view_is c.end.ensures)
