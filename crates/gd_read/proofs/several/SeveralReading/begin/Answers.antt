use Rattle.gd_read.proofs.Paid.{several_paid}
use Rattle.gd_read.proofs.several.SeveralReading.begin.Goals as goal

pub returns-clause-first : goal.returns-clause-first
returns-clause-first g c = several_paid c.args.view.now (record { dateline = c.dateline-dateline.result; parts = c.in_ok-parts.parts }) c.dateline-dateline.ensures.dateline c.in_ok-parts.ensures.paid
