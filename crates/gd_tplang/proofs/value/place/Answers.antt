use Rattle.std.proofs.Common.{arith}
use Rattle.gd_prim.specs.Limits.{max_prims}
use Rattle.gd_tplang.proofs.Tests.{number_read}
use Rattle.gd_tplang.proofs.value.place.Goals as goal

pub overflow_cast-result : goal.overflow_cast-result
overflow_cast-result c = let within = number_read max_prims c.args.bytes.now c.in_ok-place.place c.in_ok-place.rest.now (omega arith) c.in_ok-place.ensures in omega (arith, within)
