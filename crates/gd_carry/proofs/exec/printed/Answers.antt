use Rattle.std.proofs.Common.{◌∙◌, ap, sym}
use Rattle.std.proofs.lemmas.Result.{IfOk-weaker}
use Rattle.gd_defs.specs.Write.{result_of}
use Rattle.gd_growing.specs.State.{so_far}
use Rattle.gd_mql.specs.Requests.{asked_change, write_set_view}
use Rattle.gd_mql.specs.declared.request.WriteSet.{WriteSet}
use Rattle.gd_carry.specs.Printed.{many_view}
use Rattle.gd_carry.proofs.Whole.{alone}
use Rattle.gd_carry.proofs.exec.printed.Goals as goal

pub returns-in-One : goal.returns-in-One
returns-in-One c =
    let parts = many_view (so_far c.args.growing.now) c.args.parts.now in
    IfOk-weaker c.printed_first.result _ _ (λ json is. is ∙ alone (asked_change c.in-One.field-0) parts ∙ sym (ap (λ (asks : WriteSet). result_of (write_set_view asks) parts) c.in-One.is)) c.printed_first.ensures
