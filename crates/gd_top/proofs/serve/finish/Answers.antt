use Rattle.std.proofs.Common.{refl}
use Rattle.gd_top.proofs.Counted.{none_long}
use Rattle.gd_top.proofs.serve.finish.Goals as goal

pub returns-then-is_on-clause-off : goal.returns-then-is_on-clause-off
returns-then-is_on-clause-off g c none = absurd (none_long c.args.keeping.now.caches none (c.is_on.ensures.on c.if-is_on.true))

pub returns-clause-off : goal.returns-clause-off
returns-clause-off g c none = (refl, refl)

pub returns-clause-done : goal.returns-clause-done
returns-clause-done g c long is = absurd (none_long c.args.keeping.now.caches (c.is_on.ensures.off c.if-is_on.false) long)
