use Rattle.std.proofs.Common.{arith, refl}
use Rattle.gd_grammar.proofs.Ranges.{number_within}
use Rattle.gd_codec.proofs.primitive.reference.Goals as goal

pub overflow_cast-result : goal.overflow_cast-result
overflow_cast-result c =
    let within = number_within 4294967295 4 c.args.bytes.now c.in_ok-place.place c.in_ok-place.rest.now refl refl c.in_ok-place.ensures in
    omega (arith, within)
