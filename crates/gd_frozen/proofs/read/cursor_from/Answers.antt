use Rattle.std.proofs.Common.{arith}
use Rattle.gd_frozen.specs.Meant.{meant}
use Rattle.gd_frozen.specs.Finds.{whole_cursor_at}
use Rattle.gd_frozen.proofs.Whole.{stopped_at, left_within, found_is, found_spelled, bad_is, bad_spelled}
use Rattle.gd_frozen.proofs.read.cursor_from.Goals as goal

pub overflow_sub-result : goal.overflow_sub-result
overflow_sub-result c =
    let bytes = c.args.bytes.now in
    let (rest, is, left) = stopped_at c.in-Err.stop (whole_cursor_at bytes) c.in-Err.ensures in
    let within = left_within bytes rest is in
    omega (arith, left, within)

pub returns-in-Ok-clause-read : goal.returns-in-Ok-clause-read
returns-in-Ok-clause-read c = found_spelled c.args.bytes.now (meant c.in-Ok.cursor) c.in-Ok.ensures

pub returns-in-Ok-clause-given : goal.returns-in-Ok-clause-given
returns-in-Ok-clause-given c = found_is c.args.bytes.now (meant c.in-Ok.cursor) c.in-Ok.ensures

pub returns-in-Err-clause-read : goal.returns-in-Err-clause-read
returns-in-Err-clause-read c =
    let bytes = c.args.bytes.now in
    let (rest, is, left) = stopped_at c.in-Err.stop (whole_cursor_at bytes) c.in-Err.ensures in
    bad_spelled bytes rest c.in-Err.stop.left is left

pub returns-in-Err-clause-given : goal.returns-in-Err-clause-given
returns-in-Err-clause-given c =
    let bytes = c.args.bytes.now in
    let (rest, is, left) = stopped_at c.in-Err.stop (whole_cursor_at bytes) c.in-Err.ensures in
    bad_is bytes rest c.in-Err.stop.left is left
