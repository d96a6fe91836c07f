use Rattle.std.proofs.Common.{◌∙◌, ap, take}
use Rattle.std.specs.Prelude.{slice_get}
use Rattle.gd_prim.specs.Live.{places_where}
use Rattle.gd_store.specs.Keys.{is_key_of}
use Rattle.gd_store.proofs.Entered.{below_where}
use Rattle.gd_store.proofs.indexed.IndexedPrims.key_of.Goals as goal

pub returns-clause-place : goal.returns-clause-place
returns-clause-place g c =
    c.key_of.ensures.place
    ∙ ap (λ ids. slice_get ids c.args.k) (below_where (is_key_of c.args.object) c.args.end c.self.inside.prims _ (c.self.invariant.indexed.keys.by_object c.args.object))
    ∙ ap (λ prims. slice_get (places_where (is_key_of c.args.object) (take c.args.end prims)) c.args.k) c.self.view_is
