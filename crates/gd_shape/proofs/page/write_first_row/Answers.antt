use Rattle.std.proofs.Common.{ap, sym, ◌∙◌}
use Rattle.std.proofs.lemmas.Result.{err_from_is_err_and, IfOk-weaker}
use Rattle.gd_plan.specs.Asked.{members_view}
use Rattle.gd_shape.specs.Outcome.{seen}
use Rattle.gd_shape.proofs.Listed.{first_row_lacks}
use Rattle.gd_shape.proofs.Rows.{first_row}
use Rattle.gd_shape.proofs.page.write_first_row.Goals as goal

pub returns-in_err-write_row-clause-listed : goal.returns-in_err-write_row-clause-listed
returns-in_err-write_row-clause-listed c =
    let p = err_from_is_err_and c.from_residual-in_err-write_row.result c.from_residual-in_err-write_row.ensures.1 in
    rw (p.1, p.2) (first_row_lacks c.args.sight.now (members_view c.args.members.now) c.args.trees.now c.in-Some.rest.now c.in-Some.tree.now c.in_err-write_row.field-0.0 c.in-Some.ensures.cases.0 c.in_err-write_row.ensures.listed)

pub returns-in-Ok-clause-printed : goal.returns-in-Ok-clause-printed
returns-in-Ok-clause-printed c =
    IfOk-weaker c.pass_rows.result _ _
    (λ outcome behind. first_row c.args.sight.now (members_view c.args.members.now) c.args.trees.now c.in-Some.rest.now c.in-Some.tree.now c.args.out.now.tokens c.write_row.new.out.tokens
    c.args.told.now c.write_row.new.told c.pass_rows.new.told outcome
    c.in-Some.ensures.cases.0 (ap (λ r. seen (λ _. (c.write_row.new.out.tokens, c.write_row.new.told)) r) (sym c.in-Ok.is) ∙ c.in_ok-write_row.ensures.printed) (behind c.write_row.new.out.tokens)) c.pass_rows.ensures.printed
