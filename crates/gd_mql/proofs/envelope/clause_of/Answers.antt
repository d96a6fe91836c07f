use Rattle.std.proofs.Common.{◌∙◌, sym, ap, subst, Ok}
use Rattle.std.proofs.lemmas.Result.{err_from_is_err_and}
use Rattle.gd_json.specs.View.{view}
use Rattle.gd_mql.specs.FormFault.{Refuses}
use Rattle.gd_mql.proofs.Envelopes.{clause-refused, clause-given, change-right}
use Rattle.gd_mql.proofs.envelope.clause_of.Goals as goal

pub returns-in_err-check_clause : goal.returns-in_err-check_clause
returns-in_err-check_clause c =
    let p = err_from_is_err_and c.from_residual.result c.from_residual.ensures.1 in
    rw (p.1, p.2) (subst (λ e. Refuses e c.in_err-check_clause.field-0.0) (sym (clause-refused (view c.args.clause))) c.in_err-check_clause.ensures)

pub new-requires-clause-right : goal.new-requires-clause-right
new-requires-clause-right c = change-right (view c.args.clause) c.in_ok-check_clause.ensures

pub returns : goal.returns
returns c = clause-given (view c.args.clause) c.in_ok-check_clause.ensures ∙ ap Ok (sym c.new.ensures)
