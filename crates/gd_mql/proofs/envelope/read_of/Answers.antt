use Rattle.std.proofs.Common.{false}
use Rattle.std.proofs.lemmas.Result.{err_from_is_err_and}
use Rattle.gd_json.specs.View.{view}
use Rattle.gd_mql.proofs.Written.{there}
use Rattle.gd_mql.proofs.Envelopes.{one-refused}
use Rattle.gd_mql.proofs.envelope.read_of.Goals as goal

pub returns-in_err-request_of : goal.returns-in_err-request_of
returns-in_err-request_of c =
    let p = err_from_is_err_and c.from_residual.result c.from_residual.ensures.1 in
    rw (p.1, p.2) (one-refused (view c.args.envelope) c.in_err-request_of.field-0.0 (there c.member.result _ (λ part. view part.now) false c.member.ensures c.if-is_some.ensures) c.in_err-request_of.ensures)
