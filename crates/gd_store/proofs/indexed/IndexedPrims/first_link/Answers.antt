use Rattle.std.proofs.Common.{◌∙◌, ap, take}
use Rattle.gd_prim.specs.End.{end_of, places_with}
use Rattle.gd_prim.specs.Live.{refers}
use Rattle.gd_postings.specs.Postings.{first_from}
use Rattle.gd_store.proofs.Entered.{below_where}
use Rattle.gd_store.proofs.indexed.IndexedPrims.first_link.Goals as goal

pub returns-clause-first : goal.returns-clause-first
returns-clause-first g c =
    c.first_link.ensures.first
    ∙ ap (first_from c.args.from) (below_where (λ p. refers (end_of c.args.end p) c.args.node) c.args.below c.self.inside.prims _ (c.self.invariant.indexed.links c.args.end c.args.node))
    ∙ ap (λ prims. first_from c.args.from (places_with c.args.end c.args.node (take c.args.below prims))) c.self.view_is
