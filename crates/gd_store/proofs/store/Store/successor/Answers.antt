use Rattle.std.proofs.Common.{◌∙◌, ap}
use Rattle.gd_prim.specs.Live as graph
use Rattle.gd_store.proofs.Stored.{front_at}
use Rattle.gd_store.proofs.store.Store.successor.Goals as goal

pub returns-clause-successor : goal.returns-clause-successor
returns-clause-successor g c =
    c.successor.ensures.successor
    ∙ ap (λ prims. graph.successor prims c.args.id)
    (front_at c.self.inside.prims c.self.inside.requests.items c.self.inside.text c.args.self.now c.end.result c.args.dateline c.self.invariant c.self.view_is c.end.ensures)
