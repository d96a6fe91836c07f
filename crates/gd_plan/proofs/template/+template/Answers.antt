use Rattle.std.proofs.Common.{map, option_map, arith}
use Rattle.std.proofs.lemmas.Result.{err_from_is_err_and}
use Rattle.std.specs.Option.{option_to_list}
use Rattle.gd_defs.specs.Plan as plan
use Rattle.gd_template.specs.View.{parts}
use Rattle.gd_plan.specs.Asked.{members_view}
use Rattle.gd_plan.specs.Making.{in_front}
use Rattle.gd_plan.specs.Seen.{sort_key_view}
use Rattle.gd_plan.proofs.Fronts.{member_walked, member_refused}
use Rattle.gd_plan.proofs.template.+template.Goals as goal

pub clauses_of-returns-in_err-clause : goal.clauses_of-returns-in_err-clause
clauses_of-returns-in_err-clause t c =
    let l = c.loop-member in
    let sort = map sort_key_view c.args.sort.now in
    let p = err_from_is_err_and c.from_residual.result c.from_residual.ensures.1 in
    rw (p.1, p.2) (member_refused sort (map parts l.clauses.items) c.args.members.now l.member-index c.member-item.result
    (in_front (map parts c.args.front.items) (plan.clauses_of sort (members_view c.args.members.now)))
    c.in_err-clause.field-0.0 (omega (arith, c.loop-member-test.true)) c.member-item.is l.invariant c.in_err-clause.ensures)

pub clauses_of-loop-member-preserved : goal.clauses_of-loop-member-preserved
clauses_of-loop-member-preserved t c =
    let l = c.loop-member in
    let sort = map sort_key_view c.args.sort.now in
    member_walked sort (map parts l.clauses.items) (option_to_list (option_map parts c.in_ok-clause.clause)) c.args.members.now l.member-index c.member-item.result
    (in_front (map parts c.args.front.items) (plan.clauses_of sort (members_view c.args.members.now)))
    (map parts c.push_clause.new.clauses.items) (omega (arith, c.loop-member-test.true)) c.member-item.is l.invariant c.in_ok-clause.ensures c.in_ok-push_clause.ensures
