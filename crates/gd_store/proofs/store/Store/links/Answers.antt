use Rattle.std.proofs.Common.{◌∙◌, ap}
use Rattle.gd_prim.specs.End.{places_with}
use Rattle.gd_store.proofs.Stored.{front_at}
use Rattle.gd_store.proofs.store.Store.links.Goals as goal

pub returns-clause-places : goal.returns-clause-places
returns-clause-places g c =
    c.links.ensures.places
    ∙ ap (places_with c.args.end c.args.node)
    (front_at c.self.inside.prims c.self.inside.requests.items c.self.inside.text c.args.self.now c.end.result c.args.dateline c.self.invariant c.self.view_is c.end.ensures)
