use Rattle.std.proofs.lemmas.Result.{err_from_is_err_and}
use Rattle.gd_json.specs.View.{view}
use Rattle.gd_runs.specs.Request.{read_of}
use Rattle.gd_mql.specs.Requests.{read_set_view}
use Rattle.gd_mql.proofs.Envelopes.{request-refused, request-told}
use Rattle.gd_mql.proofs.line.read_request.Goals as goal

pub returns-in_err-read_of : goal.returns-in_err-read_of
returns-in_err-read_of c =
    let p = err_from_is_err_and c.from_residual.result c.from_residual.ensures.1 in
    rw (p.1, p.2) (request-refused (read_of (view c.args.envelope)) c.in_err-read_of.field-0.0 c.in_err-read_of.ensures)

pub returns : goal.returns
returns c = request-told (read_of (view c.args.envelope)) (read_set_view c.in_ok-read_of.field-0) c.in_ok-read_of.ensures
