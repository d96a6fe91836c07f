use Rattle.std.proofs.Common.{◌≡◌, arith, true, map, length}
use Rattle.std.proofs.lemmas.Result.{err_from_is_err_and}
use Rattle.std.specs.Vec.Iter.{into_iter_items}
use Rattle.gd_json.specs.View.{view, items_view}
use Rattle.gd_runs.specs.Request.{request_of}
use Rattle.gd_mql.specs.Requests.{read_view}
use Rattle.gd_mql.proofs.Numbered.{each-stop}
use Rattle.gd_mql.proofs.envelope.requests_of.Goals as goal

pub returns-in_err-numbered_request-clause-spelled : goal.returns-in_err-numbered_request-clause-spelled
returns-in_err-numbered_request-clause-spelled c =
    let p = err_from_is_err_and c.from_residual-in_err-numbered_request.result c.from_residual-in_err-numbered_request.ensures.1 in
    let number : c.len-in-loop-item.result ≡ length c.loop-item.requests.items = omega arith in
    rw (p.1, p.2, c.loop-item.invariant.same, c.in-Some.ensures.steps.0)
    (each-stop (request_of true) (length c.loop-item.requests.items) (view c.in-Some.item) (items_view (into_iter_items c.next.new.self)) (map read_view c.loop-item.requests.items) c.in_err-numbered_request.field-0.0 (rw number at c.in_err-numbered_request.ensures))
