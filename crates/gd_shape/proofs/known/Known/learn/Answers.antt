use Rattle.std.proofs.Common.{◌≤◌, ◌+◌, IsNone, subst, sym}
use Rattle.gd_shape.specs.Knowing.{known_at, unknown_of, IsKnownOf}
use Rattle.gd_shape.proofs.Knowing.{learned, kept, fewer_unknown}
use Rattle.gd_shape.proofs.known.Known.learn.Goals as goal

pub returns-in-Ok-clause-known : goal.returns-in-Ok-clause-known
returns-in-Ok-clause-known c = λ prims known is. learned prims c.self.inside.walks.entries c.insert.new.self.entries c.args.object c.args.walk (subst (IsKnownOf prims) (sym c.self.view_is) known) is c.in-Ok.ensures.updates.0

pub returns-in-Ok-clause-due : goal.returns-in-Ok-clause-due
returns-in-Ok-clause-due c = λ os here unknown. subst (λ ids. unknown_of c.insert.new.self.entries os + 1 ≤ unknown_of ids os) c.self.view_is
    (fewer_unknown c.self.inside.walks.entries c.insert.new.self.entries c.args.object c.args.walk c.in-Ok.ensures.updates.0 os here
    (subst (λ ids. IsNone (known_at ids c.args.object)) (sym c.self.view_is) unknown))

pub returns-clause-known : goal.returns-clause-known
returns-clause-known c = λ prims known is. kept prims c.self.inside.walks.entries c.insert.new.self.entries (subst (IsKnownOf prims) (sym c.self.view_is) known) c.in-Err.ensures.err
