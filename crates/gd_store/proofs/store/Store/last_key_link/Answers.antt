use Rattle.std.proofs.Common.{◌∙◌, ap}
use Rattle.std.specs.Prelude.{None}
use Rattle.std.specs.List.{last_or}
use Rattle.gd_prim.specs.Live.{places_where}
use Rattle.gd_store.specs.Keys.{is_key_link}
use Rattle.gd_store.proofs.Stored.{front_at}
use Rattle.gd_store.proofs.store.Store.last_key_link.Goals as goal

pub returns-clause-last : goal.returns-clause-last
returns-clause-last g c =
    c.last_key_link.ensures.last
    ∙ ap (λ prims. last_or None (places_where (is_key_link c.args.namespace c.args.key.now) prims))
    (front_at c.self.inside.prims c.self.inside.requests.items c.self.inside.text c.args.self.now c.end.result c.args.dateline c.self.invariant c.self.view_is c.end.ensures)
