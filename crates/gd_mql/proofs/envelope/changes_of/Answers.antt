use Rattle.std.proofs.Common.{◌≡◌, arith, map, length}
use Rattle.std.proofs.lemmas.Result.{err_from_is_err_and}
use Rattle.std.specs.Vec.Iter.{into_iter_items}
use Rattle.gd_json.specs.View.{view, items_view}
use Rattle.gd_runs.specs.Request.{clause_of}
use Rattle.gd_mql.specs.Requests.{asked_change}
use Rattle.gd_mql.proofs.Numbered.{each-stop}
use Rattle.gd_mql.proofs.envelope.changes_of.Goals as goal

pub returns-in_err-numbered_clause-clause-spelled : goal.returns-in_err-numbered_clause-clause-spelled
returns-in_err-numbered_clause-clause-spelled c =
    let p = err_from_is_err_and c.from_residual-in_err-numbered_clause.result c.from_residual-in_err-numbered_clause.ensures.1 in
    let number : c.len-in-loop-item.result ≡ length c.loop-item.changes.items = omega arith in
    rw (p.1, p.2, c.loop-item.invariant.same, c.in-Some.ensures.steps.0)
    (each-stop clause_of (length c.loop-item.changes.items) (view c.in-Some.item) (items_view (into_iter_items c.next.new.self)) (map asked_change c.loop-item.changes.items) c.in_err-numbered_clause.field-0.0 (rw number at c.in_err-numbered_clause.ensures))
