use Rattle.std.proofs.Common.{◌≡◌, ◌<◌, ◌^◌, drop}
use Rattle.gd_defs.specs.Ids as defined
use Rattle.gd_fault.proofs.ids.hex_number.Given as goal

abbrev pub invariant-loop-digit : goal.invariant-loop-digit
invariant-loop-digit l = record {
  left : defined.hex_number 0 l.digits ≡ defined.hex_number l.number (drop l.digit-index l.digits);
  small : l.number < 16 ^ l.digit-index;
}
