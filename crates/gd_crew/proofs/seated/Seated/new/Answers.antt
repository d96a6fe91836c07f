use Rattle.std.proofs.Common.{arith}
use Rattle.gd_crew.proofs.Turned.{is_new}
use Rattle.gd_crew.proofs.seated.Seated.new.Goals as goal

pub returns-in-Ok-clause-new : goal.returns-in-Ok-clause-new
returns-in-Ok-clause-new c = is_new c.args.sid c.args.session c.args.jobs c.in-Ok.replies c.in-Ok.ensures.items (let room = c.in-Ok.ensures.capacity in let jobs = c.len.ensures in omega (arith, room, jobs))
