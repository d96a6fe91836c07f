use Rattle.std.proofs.lemmas.Result.{err_from_is_err_and}
use Rattle.gd_json.specs.View.{view}
use Rattle.gd_runs.specs.Core.{thaw}
use Rattle.gd_runs.specs.Request.{read_of}
use Rattle.gd_events.proofs.Named.{asked_failed}
use Rattle.gd_events.proofs.read.thawed.Goals as goal

pub returns-in_err-request : goal.returns-in_err-request
returns-in_err-request c =
    let p = err_from_is_err_and c.from_residual.result c.from_residual.ensures.1 in
    rw (p.1, p.2) (λ named. asked_failed (read_of (view c.args.envelope)) (λ r. thaw c.args.sid r c.args.text) _ (c.in_err-request.ensures named))
