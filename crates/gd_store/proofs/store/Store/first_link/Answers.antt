use Rattle.std.proofs.Common.{◌∙◌, ap}
use Rattle.gd_prim.specs.End.{places_with}
use Rattle.gd_postings.specs.Postings.{first_from}
use Rattle.gd_store.proofs.Stored.{front_at}
use Rattle.gd_store.proofs.store.Store.first_link.Goals as goal

pub returns-clause-first : goal.returns-clause-first
returns-clause-first g c =
    c.first_link.ensures.first
    ∙ ap (λ prims. first_from c.args.from (places_with c.args.end c.args.node prims))
    (front_at c.self.inside.prims c.self.inside.requests.items c.self.inside.text c.args.self.now c.end.result c.args.dateline c.self.invariant c.self.view_is c.end.ensures)
