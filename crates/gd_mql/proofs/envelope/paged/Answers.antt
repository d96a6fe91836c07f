use Rattle.std.proofs.Common.{◌∙◌, sym, ap, subst, Ok}
use Rattle.std.specs.Result.{result_err}
use Rattle.std.proofs.lemmas.Result.{err_from_is_err_and}
use Rattle.gd_json.specs.View.{view}
use Rattle.gd_mql.specs.FormFault.{Refuses}
use Rattle.gd_mql.specs.Requests.{cursor_view}
use Rattle.gd_mql.proofs.Envelopes.{misplaced, paged-refused, paged-given}
use Rattle.gd_mql.proofs.envelope.paged.Goals as goal

pub returns-then-is_misplaced : goal.returns-then-is_misplaced
returns-then-is_misplaced c =
    subst (λ r. Refuses (result_err r) c.root_fault.result) (sym (misplaced c.args.among (cursor_view c.args.cursor) (view c.args.query) (sym c.if-is_misplaced.ensures))) c.root_fault.ensures

pub returns-in_err-check_query : goal.returns-in_err-check_query
returns-in_err-check_query c =
    let p = err_from_is_err_and c.from_residual.result c.from_residual.ensures.1 in
    rw (p.1, p.2) (subst (λ e. Refuses e c.in_err-check_query.field-0.0) (sym (paged-refused c.args.among (cursor_view c.args.cursor) (view c.args.query) (sym c.if-is_misplaced.ensures))) c.in_err-check_query.ensures)

pub returns : goal.returns
returns c = paged-given c.args.among (cursor_view c.args.cursor) (view c.args.query) (sym c.if-is_misplaced.ensures) c.in_ok-check_query.ensures ∙ ap Ok (sym c.new.ensures)
