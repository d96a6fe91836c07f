use Rattle.std.proofs.Common.{sym, ◌∙◌, ap, length}
use Rattle.gd_fault.proofs.Guids.{guid_place-other, guid_place-length, guid_place-whole}
use Rattle.gd_fault.proofs.ids.guid_place.Goals as goal

pub returns-in_err-digits : goal.returns-in_err-digits
returns-in_err-digits c = c.from_residual.ensures ∙ sym (guid_place-other c.args.text.now c.in_err-digits.ensures.cases)

pub returns-then-digits-ne-GUID_DIGITS : goal.returns-then-digits-ne-GUID_DIGITS
returns-then-digits-ne-GUID_DIGITS c =
    sym (guid_place-length c.args.text.now (λ same. c.if-digits-ne-GUID_DIGITS.true (ap length c.in_ok-digits.ensures.cases.1 ∙ same)))

pub returns : goal.returns
returns c = c.hex_number.ensures
    ∙ sym (guid_place-whole c.args.text.now c.in_ok-digits.digits.now c.in_ok-digits.ensures.cases.0 c.in_ok-digits.ensures.cases.1 c.if-digits-ne-GUID_DIGITS.false)
