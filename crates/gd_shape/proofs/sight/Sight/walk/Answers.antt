use Rattle.std.proofs.Common.{sym}
use Rattle.gd_shape.proofs.sight.Sight.walk.Goals as goal

pub returns-in-Some-clause-tells : goal.returns-in-Some-clause-tells
returns-in-Some-clause-tells c = c.requires c.args.object c.in-Some.walk.now (sym c.in-Some.ensures)
