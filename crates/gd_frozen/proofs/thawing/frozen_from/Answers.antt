use Rattle.std.proofs.Common.{arith}
use Rattle.gd_frozen.specs.Meaning.{reading_of}
use Rattle.gd_frozen.specs.BodySteps.{whole_frozen_at}
use Rattle.gd_frozen.proofs.Bodies.{halted_at, left_within, frozen_spelled, frozen_bad}
use Rattle.gd_frozen.proofs.thawing.frozen_from.Goals as goal

pub overflow_sub-result : goal.overflow_sub-result
overflow_sub-result c =
    let bytes = c.args.bytes.now in
    let (rest, is, left) = halted_at c.in-Err-Bad.field-0 c.in-Err-Bad.left (whole_frozen_at bytes) c.in-Err-Bad.field-0-is c.in-Err-Bad.ensures in
    let within = left_within bytes rest is in
    omega (arith, left, within)

pub returns-in-Ok : goal.returns-in-Ok
returns-in-Ok c = record { read = frozen_spelled c.args.bytes.now (reading_of c.in-Ok.reading) c.in-Ok.ensures }

pub returns-in-Err-Bad : goal.returns-in-Err-Bad
returns-in-Err-Bad c =
    let bytes = c.args.bytes.now in
    let (rest, is, left) = halted_at c.in-Err-Bad.field-0 c.in-Err-Bad.left (whole_frozen_at bytes) c.in-Err-Bad.field-0-is c.in-Err-Bad.ensures in
    record { read = frozen_bad bytes rest c.in-Err-Bad.left is left }
