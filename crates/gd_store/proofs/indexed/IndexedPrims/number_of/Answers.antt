use Rattle.std.proofs.Common.{◌∙◌, ap, take}
use Rattle.gd_store.specs.Valued.{number_in}
use Rattle.gd_store.proofs.Valued.{number_front}
use Rattle.gd_store.proofs.indexed.IndexedPrims.number_of.Goals as goal

pub returns-clause-number : goal.returns-clause-number
returns-clause-number g c =
    c.number_of.ensures.number
    ∙ number_front c.self.inside.indexes.values c.self.inside.prims c.args.end c.args.value.now c.self.invariant.indexed.values
    ∙ ap (λ prims. number_in c.args.value.now (take c.args.end prims)) c.self.view_is
