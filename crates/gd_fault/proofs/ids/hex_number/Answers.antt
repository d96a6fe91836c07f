use Rattle.std.proofs.Common.{◌<◌, arith, ◌+◌, ◌*◌, ◌^◌}
use Rattle.gd_fault.proofs.Guids.{digit_more}
use Rattle.gd_fault.proofs.ids.hex_number.Goals as goal

pub overflow_mul-number : goal.overflow_mul-number
overflow_mul-number c =
    let few : c.loop-digit.digit-index < 16 = omega arith in
    let more : 16 * c.loop-digit.number + 0 < 2 ^ 64 = digit_more c.loop-digit.digit-index c.loop-digit.number 0 few c.loop-digit.invariant.small (omega arith) in
    omega arith

pub overflow_add-number : goal.overflow_add-number
overflow_add-number c =
    let few : c.loop-digit.digit-index < 16 = omega arith in
    let more : 16 * c.loop-digit.number + c.in_ok-number.field-0 < 2 ^ 64 = digit_more c.loop-digit.digit-index c.loop-digit.number c.in_ok-number.field-0 few c.loop-digit.invariant.small c.in_ok-number.ensures.small in
    omega arith
