use Rattle.std.proofs.Common.{◌∙◌, sym, length}
use Rattle.std.specs.Prelude.{nat_lt}
use Rattle.std.proofs.Common.{take}
use Rattle.std.proofs.lemmas.Bool.{lt-ltb}
use Rattle.std.proofs.lemmas.Result.{IfOk-weaker}
use Rattle.gd_thawed.proofs.Printed.{cursor_last}
use Rattle.gd_thawed.proofs.printing.page_cursor.Goals as goal

pub returns-in-Some : goal.returns-in-Some
returns-in-Some c =
    let last = rw c.page_of.ensures at c.in-Some.ensures.value in
    IfOk-weaker c.row_text.result _ _
    (λ json is. is ∙ cursor_last c.args.dateline (take c.args.limit c.args.rows.now) (nat_lt c.args.limit (length c.args.rows.now)) c.in-Some.row.now (lt-ltb c.args.limit (length c.args.rows.now) c.if-rows-limit.false) (sym last))
    c.row_text.ensures
