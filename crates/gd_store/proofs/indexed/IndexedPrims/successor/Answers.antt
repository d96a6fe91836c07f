use Rattle.std.proofs.Common.{◌∙◌, ap, take}
use Rattle.gd_prim.specs.Live as graph
use Rattle.gd_store.proofs.Entered.{below_successor}
use Rattle.gd_store.proofs.indexed.IndexedPrims.successor.Goals as goal

pub returns-clause-successor : goal.returns-clause-successor
returns-clause-successor g c =
    c.successor.ensures.successor
    ∙ below_successor c.args.end c.self.inside.prims c.self.inside.indexes.versions c.args.id c.self.invariant.indexed.successors
    ∙ ap (λ prims. graph.successor (take c.args.end prims) c.args.id) c.self.view_is
