use Rattle.gd_valueidx.proofs.Runs.{first_number}
use Rattle.gd_valueidx.proofs.order.Order.first_of.Goals as goal

pub returns-in-Some-clause-number : goal.returns-in-Some-clause-number
returns-in-Some-clause-number c =
    first_number c.args.self.now.runs.items c.deref.result.now c.args.run c.first.result c.in-Some.first.now c.args.self.now.filled c.deref.ensures.value c.in-Some.ensures.lookup.0 c.in-Some.ensures.lookup.1 c.first.ensures
