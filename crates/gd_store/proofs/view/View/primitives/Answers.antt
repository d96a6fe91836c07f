use Rattle.std.proofs.Common.{◌<◌, List, length, take, subst, sym}
use Rattle.gd_prim.specs.declared.Primitive.{Primitive}
use Rattle.gd_prim.specs.History.{AreHeld, AreTimed}
use Rattle.gd_store.proofs.Held.{history_some, history_held, history_timed}
use Rattle.gd_store.proofs.view.View.primitives.Goals as goal

pub returns-clause-some : goal.returns-clause-some
returns-clause-some c =
    let P : List Primitive → Type 0 = λ prims. 0 < length prims in
    subst P (sym c.below.ensures.below) (history_some (take c.self.inside.dateline c.self.inside.store.now))

pub returns-clause-held : goal.returns-clause-held
returns-clause-held c = subst AreHeld (sym c.below.ensures.below) (history_held (take c.self.inside.dateline c.self.inside.store.now) c.self.invariant.history)

pub returns-clause-timed : goal.returns-clause-timed
returns-clause-timed c = subst AreTimed (sym c.below.ensures.below) (history_timed (take c.self.inside.dateline c.self.inside.store.now) c.self.invariant.history)
