use Rattle.std.proofs.Common.{◌∙◌, ap}
use Rattle.gd_prim.specs.Live as graph
use Rattle.gd_store.proofs.Entered.{some_successor}
use Rattle.gd_store.proofs.indexed.IndexedPrimsPrior.is_succeeded.Goals as goal

pub returns : goal.returns
returns c =
    c.is_succeeded.ensures
    ∙ some_successor c.self.inside.prims c.self.inside.indexes.versions c.args.place c.self.invariant.indexed.successors
    ∙ ap (λ prims. graph.has_successor prims c.args.place) c.self.view_is
