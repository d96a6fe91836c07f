use Rattle.std.proofs.lemmas.Result.{err_from_is_err_and}
use Rattle.gd_json.specs.View.{view}
use Rattle.gd_mql.proofs.Envelopes.{write-unscoped}
use Rattle.gd_mql.proofs.envelope.write_of.Goals as goal

pub returns-in_err-scope : goal.returns-in_err-scope
returns-in_err-scope c =
    let p = err_from_is_err_and c.from_residual.result c.from_residual.ensures.1 in
    rw (p.1, p.2) (write-unscoped (view c.args.envelope) _ c.in_err-scope.field-0.0 c.member.ensures c.in_err-scope.ensures)
