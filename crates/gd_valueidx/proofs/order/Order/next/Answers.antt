use Rattle.gd_valueidx.proofs.Runs.{next_number}
use Rattle.gd_valueidx.proofs.order.Order.next.Goals as goal

pub returns-in-Some-get-clause-number : goal.returns-in-Some-get-clause-number
returns-in-Some-get-clause-number c =
    next_number c.args.self.now.runs.items c.deref.result.now c.args.place.run c.args.place.index c.in-Some-get.number.now c.in-Some.run'.now c.as_slice.result.now c.deref.ensures.value c.in-Some.ensures.lookup.0
    c.in-Some.ensures.lookup.1 c.as_slice.ensures.numbers c.in-Some-get.ensures.lookup.0 c.in-Some-get.ensures.lookup.1
