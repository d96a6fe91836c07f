use Rattle.gd_grammar.proofs.Ranges.{reach_low, reach_none}
use Rattle.gd_codec.proofs.number.may_reach.Goals as goal

pub returns-then-range-bits : goal.returns-then-range-bits
returns-then-range-bits c = reach_low c.args.more c.args.n c.args.range.now c.if-range-bits.true

pub returns-else-range-bits : goal.returns-else-range-bits
returns-else-range-bits c = reach_none c.args.more c.args.n c.args.range.now c.if-range-bits.false
