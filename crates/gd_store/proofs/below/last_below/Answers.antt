use Rattle.std.proofs.Common.{arith}
use Rattle.gd_store.proofs.Rising as rising
use Rattle.gd_store.proofs.below.last_below.Goals as goal

pub at-requires : goal.at-requires
at-requires g c = record { there = omega (arith, rising.fewer_below c.args.list.now.ids c.args.end, c.len_below-count.ensures.len, c.if-count-eq0.false) }

pub returns-clause-last : goal.returns-clause-last
returns-clause-last g c =
    rising.last_below c.args.list.now.ids c.args.end c.len_below-count.result c.at.result c.len.ensures.rising c.len_below-count.ensures.len c.if-count-eq0.false c.at.ensures.id
