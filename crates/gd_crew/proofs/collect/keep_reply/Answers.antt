use Rattle.std.proofs.Common.{arith}
use Rattle.gd_crew.proofs.Taken.{takes_view}
use Rattle.gd_crew.proofs.collect.keep_reply.Goals as goal

pub returns-then-place-len : goal.returns-then-place-len
returns-then-place-len c =
    let (low, place) = c.in-Some-checked_sub.ensures in
    takes_view c.args.first c.args.read c.in-Some.reply c.in-Some-checked_sub.place c.args.worked.now.items c.put.new.worked.items c.in-Some.is c.put.ensures (omega (arith, low, place))
