use Rattle.std.proofs.Common.{◌∙◌, ap, take, length}
use Rattle.gd_prim.specs.End.{end_of, places_with}
use Rattle.gd_prim.specs.Live.{refers}
use Rattle.gd_postings.specs.Postings.{ids_below}
use Rattle.gd_store.proofs.Entered.{below_where}
use Rattle.gd_store.proofs.indexed.IndexedPrims.links_before.Goals as goal

pub returns-clause-count : goal.returns-clause-count
returns-clause-count g c =
    c.links_before.ensures.count
    ∙ ap (λ ids. length (ids_below c.args.from ids)) (below_where (λ p. refers (end_of c.args.end p) c.args.node) c.args.below c.self.inside.prims _ (c.self.invariant.indexed.links c.args.end c.args.node))
    ∙ ap (λ prims. length (ids_below c.args.from (places_with c.args.end c.args.node (take c.args.below prims)))) c.self.view_is
