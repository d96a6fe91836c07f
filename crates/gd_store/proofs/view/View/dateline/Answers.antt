use Rattle.std.proofs.Common.{take, arith}
use Rattle.std.proofs.lemmas.List.{length-take-le}
use Rattle.gd_store.proofs.Held.{history_few}
use Rattle.gd_store.proofs.view.View.dateline.Goals as goal

pub returns-clause-few : goal.returns-clause-few
returns-clause-few c =
    omega (
      arith,
      history_few (take c.self.inside.dateline c.self.inside.store.now) c.self.invariant.history,
      length-take-le c.self.inside.dateline c.self.inside.store.now c.self.invariant.there,
    )
