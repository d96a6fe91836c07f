use Rattle.std.proofs.Common.{ap, sym, ◌∙◌, map}
use Rattle.std.proofs.lemmas.Result.{err_from_is_err_and, IfOk-weaker}
use Rattle.gd_plan.specs.Asked.{asking_view, members_view}
use Rattle.gd_shape.specs.InTrees.{lists_view}
use Rattle.gd_shape.specs.Listed.{answer_listed}
use Rattle.gd_shape.specs.Outcome.{seen}
use Rattle.gd_shape.specs.Printed.{answer_print}
use Rattle.gd_trees.specs.View.{view as tree_view}
use Rattle.gd_shape.proofs.Listed.{asks_first, first_lacks}
use Rattle.gd_shape.proofs.Members.{asks_written}
use Rattle.gd_shape.proofs.Prints.{each_more, first_more}
use Rattle.gd_shape.proofs.print.+print.Goals as goal

pub write_each-loop-row-preserved : goal.write_each-loop-row-preserved
write_each-loop-row-preserved t c = record {
  printed = each_more (answer_print c.args.sight.now (asking_view c.args.asking.now) (members_view c.args.clause.now)) c.args.rows.now c.loop-row.row-index c.row-item.result c.loop-row.out.tokens c.write_answer.new.out.tokens
      c.loop-row.told c.write_answer.new.told _
      c.loop-row-test.true c.row-item.is (ap (λ r. seen (λ _. (c.write_answer.new.out.tokens, c.write_answer.new.told)) r) (sym c.in-Ok.is) ∙ c.in_ok-write_answer.ensures.printed) c.loop-row.invariant.printed;
  before = c.in_ok-write_answer.ensures.before ∙ c.loop-row.invariant.before;
}

pub write_first-returns-in_err-write_answer-clause-listed : goal.write_first-returns-in_err-write_answer-clause-listed
write_first-returns-in_err-write_answer-clause-listed t c =
    let p = err_from_is_err_and c.from_residual-in_err-write_answer.result c.from_residual-in_err-write_answer.ensures.1 in
    rw (p.1, p.2) (first_lacks (answer_listed c.args.sight.now (asking_view c.args.asking.now) (members_view c.args.clause.now)) c.args.rows.now c.in-Some.rest.now c.in-Some.row.now c.in_err-write_answer.field-0.0
    c.in-Some.ensures.cases.0 c.in_err-write_answer.ensures.listed)

pub write_first-returns-in-Ok-clause-printed : goal.write_first-returns-in-Ok-clause-printed
write_first-returns-in-Ok-clause-printed t c =
    IfOk-weaker c.pass_each.result _ _
    (λ outcome behind. first_more (answer_print c.args.sight.now (asking_view c.args.asking.now) (members_view c.args.clause.now)) c.args.rows.now c.in-Some.rest.now c.in-Some.row.now c.args.out.now.tokens c.write_answer.new.out.tokens
    c.args.told.now c.write_answer.new.told c.pass_each.new.told outcome
    c.in-Some.ensures.cases.0 (ap (λ r. seen (λ _. (c.write_answer.new.out.tokens, c.write_answer.new.told)) r) (sym c.in-Ok.is) ∙ c.in_ok-write_answer.ensures.printed) (behind c.write_answer.new.out.tokens)) c.pass_each.ensures.printed

pub write_member-returns-in_err-outcome-in-Asks-clause-listed : goal.write_member-returns-in_err-outcome-in-Asks-clause-listed
write_member-returns-in_err-outcome-in-Asks-clause-listed t c =
    let p = err_from_is_err_and c.from_residual-in_err-outcome-in-Asks.result c.from_residual-in_err-outcome-in-Asks.ensures.1 in
    rw (p.1, p.2) (asks_first c.args.sight.now c.args.member.now c.in-Asks.name c.in-Asks.asking c.in-Asks.clause c.deref.result.now (map tree_view c.first_trees.result.now) c.args.at.now.link c.args.at.now.object (lists_view c.args.lists.now)
    c.in_err-outcome-in-Asks.field-0.0 c.in-Asks.is c.deref.ensures.value c.first_trees.ensures c.in_err-outcome-in-Asks.ensures.listed)

pub write_member-returns-in_ok-under-in-Asks-clause-printed : goal.write_member-returns-in_ok-under-in-Asks-clause-printed
write_member-returns-in_ok-under-in-Asks-clause-printed t c =
    asks_written c.args.sight.now c.args.member.now c.in-Asks.name c.in-Asks.asking c.in-Asks.clause c.deref.result.now (map tree_view c.first_trees.result.now) c.args.at.now.link c.args.at.now.object (lists_view c.args.lists.now)
    c.args.out.now.tokens (c.write_asks.new.out.tokens, c.write_asks.new.told) c.args.told.now c.in_ok-outcome-in-Asks.outcome c.in_ok-under-in-Asks.field-0 c.in-Asks.is c.deref.ensures.value c.first_trees.ensures
    (c.in_ok-under-in-Asks.ensures (c.write_asks.new.out.tokens, c.write_asks.new.told)) c.in_ok-outcome-in-Asks.ensures.printed
