use Rattle.std.proofs.Common.{arith}
use Rattle.gd_tplang.proofs.Tests.{number_read}
use Rattle.gd_tplang.proofs.value.natural.Goals as goal

pub above_zero-requires : goal.above_zero-requires
above_zero-requires c = let within = number_read 9_223_372_036_854_775_807 c.args.bytes.now c.in_ok-n.n c.in_ok-n.rest.now (omega arith) c.in_ok-n.ensures in omega (arith, within)
