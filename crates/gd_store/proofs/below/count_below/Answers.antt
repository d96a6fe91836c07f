use Rattle.std.proofs.Common.{arith}
use Rattle.gd_store.proofs.Rising as rising
use Rattle.gd_store.proofs.below.count_below.Goals as goal

pub returns-then-len-eq0-clause-count : goal.returns-then-len-eq0-clause-count
returns-then-len-eq0-clause-count g c = omega (arith, rising.fewer_below c.args.list.now.ids c.args.end, c.len.ensures.len, c.if-len-eq0.true)
