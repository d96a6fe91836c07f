use Rattle.gd_json.specs.View.{view}
use Rattle.std.proofs.lemmas.Result.{err_from_is_err_and}
use Rattle.gd_mql.specs.Requests.{read_set_view}
use Rattle.gd_mql.proofs.Envelopes.{read_line_failed, read_line_made}
use Rattle.gd_mql.proofs.line.read_from.Goals as goal

pub returns-in_err-request : goal.returns-in_err-request
returns-in_err-request c =
    let p = err_from_is_err_and c.from_residual.result c.from_residual.ensures.1 in
    rw (p.1, p.2) (λ named. read_line_failed c.args.sid (view c.args.envelope) _ (c.in_err-request.ensures named))

pub returns : goal.returns
returns c = read_line_made c.args.sid (view c.args.envelope) (read_set_view c.in_ok-request.request) c.in_ok-request.ensures
