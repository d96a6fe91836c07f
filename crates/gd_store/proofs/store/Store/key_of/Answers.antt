use Rattle.std.proofs.Common.{◌∙◌, ap}
use Rattle.std.specs.Prelude.{slice_get}
use Rattle.gd_prim.specs.Live.{places_where}
use Rattle.gd_store.specs.Keys.{is_key_of}
use Rattle.gd_store.proofs.Stored.{front_at}
use Rattle.gd_store.proofs.store.Store.key_of.Goals as goal

pub returns-clause-place : goal.returns-clause-place
returns-clause-place g c =
    c.key_of.ensures.place
    ∙ ap (λ prims. slice_get (places_where (is_key_of c.args.object) prims) c.args.k)
    (front_at c.self.inside.prims c.self.inside.requests.items c.self.inside.text c.args.self.now c.end.result c.args.dateline c.self.invariant c.self.view_is c.end.ensures)
