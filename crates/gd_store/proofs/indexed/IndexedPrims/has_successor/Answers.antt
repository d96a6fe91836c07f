use Rattle.std.proofs.Common.{◌∙◌, ap, take}
use Rattle.std.specs.Prelude.{is_some}
use Rattle.gd_prim.specs.Live.{refers}
use Rattle.gd_store.proofs.Places.{first_some}
use Rattle.gd_store.proofs.indexed.IndexedPrims.has_successor.Goals as goal

pub returns-clause-found : goal.returns-clause-found
returns-clause-found g c =
    c.is_some.ensures ∙ ap is_some c.successor.ensures.successor ∙ first_some (λ p. refers p.previous c.args.id) 0 (take c.args.end c.args.self.now)
