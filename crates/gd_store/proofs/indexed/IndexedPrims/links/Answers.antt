use Rattle.std.proofs.Common.{◌∙◌, ap, take}
use Rattle.gd_prim.specs.End.{end_of, places_with}
use Rattle.gd_prim.specs.Live.{refers}
use Rattle.gd_store.proofs.Entered.{below_where}
use Rattle.gd_store.proofs.indexed.IndexedPrims.links.Goals as goal

pub returns-clause-places : goal.returns-clause-places
returns-clause-places g c =
    c.links.ensures.places
    ∙ below_where (λ p. refers (end_of c.args.end p) c.args.node) c.args.below c.self.inside.prims _ (c.self.invariant.indexed.links c.args.end c.args.node)
    ∙ ap (λ prims. places_with c.args.end c.args.node (take c.args.below prims)) c.self.view_is
