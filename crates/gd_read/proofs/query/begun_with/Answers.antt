use Rattle.gd_read.proofs.Paid.{query_paid}
use Rattle.gd_read.proofs.query.begun_with.Goals as goal

pub returns-in-Ok-clause-going : goal.returns-in-Ok-clause-going
returns-in-Ok-clause-going g c = c.in-Ok.ensures.begins c.args.subject c.args.window c.requires.asked c.requires.made c.requires.seen

pub returns-in-Ok-clause-paid : goal.returns-in-Ok-clause-paid
returns-in-Ok-clause-paid g c = query_paid c.args.view.now (record { subject = c.args.subject; window = c.args.window; stage = c.in-Ok.stage }) c.args.plan c.requires.asked c.in-Ok.ensures.paid
