use Rattle.std.proofs.lemmas.Result.{err_from_is_err_and}
use Rattle.gd_json.specs.View.{view}
use Rattle.gd_runs.specs.Request.{write_of}
use Rattle.gd_mql.specs.Requests.{write_view}
use Rattle.gd_mql.proofs.Envelopes.{request-refused, request-told}
use Rattle.gd_mql.proofs.line.write_request.Goals as goal

pub returns-in_err-write_of : goal.returns-in_err-write_of
returns-in_err-write_of c =
    let p = err_from_is_err_and c.from_residual.result c.from_residual.ensures.1 in
    rw (p.1, p.2) (request-refused (write_of (view c.args.envelope)) c.in_err-write_of.field-0.0 c.in_err-write_of.ensures)

pub returns : goal.returns
returns c = request-told (write_of (view c.args.envelope)) (write_view c.in_ok-write_of.field-0) c.in_ok-write_of.ensures
