use Rattle.std.proofs.Common.{arith}
use Rattle.gd_tplang.proofs.Tests.{positive_read}
use Rattle.gd_tplang.proofs.value.negative.Goals as goal

pub below_zero-requires-clause-some : goal.below_zero-requires-clause-some
below_zero-requires-clause-some c = (positive_read 9_223_372_036_854_775_808 c.in_ok-rest.rest.now c.in_ok-n.n c.in_ok-n.rest.now (omega arith) (omega arith) c.in_ok-n.ensures).0

pub below_zero-requires-clause-within : goal.below_zero-requires-clause-within
below_zero-requires-clause-within c = (positive_read 9_223_372_036_854_775_808 c.in_ok-rest.rest.now c.in_ok-n.n c.in_ok-n.rest.now (omega arith) (omega arith) c.in_ok-n.ensures).1
