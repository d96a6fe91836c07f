use Rattle.std.proofs.Common.{true, false, sym}
use Rattle.gd_mql.specs.Names.{operator_view}
use Rattle.gd_mql.proofs.Spelling.{named}
use Rattle.gd_mql.proofs.name.name_from.Goals as goal

pub returns-then-may_be_word : goal.returns-then-may_be_word
returns-then-may_be_word c =
    named c.args.spelled.now c.in_ok-behind_label.field-0.now c.behind_mark-reversed.result.1.now c.split_word.result.0.now c.split_word.result.1.now c.behind_mark-reversed.result.0 (operator_view c.in_ok-operator.operator) true
    c.in_ok-behind_label.ensures c.behind_mark-reversed.ensures.marked c.behind_mark-reversed.ensures.behind c.split_word.ensures.front c.split_word.ensures.back c.in_ok-operator.ensures
    (sym c.if-may_be_word.ensures)

pub returns-else-may_be_word : goal.returns-else-may_be_word
returns-else-may_be_word c =
    named c.args.spelled.now c.in_ok-behind_label.field-0.now c.behind_mark-reversed.result.1.now c.split_word.result.0.now c.split_word.result.1.now c.behind_mark-reversed.result.0 (operator_view c.in_ok-operator.operator) false
    c.in_ok-behind_label.ensures c.behind_mark-reversed.ensures.marked c.behind_mark-reversed.ensures.behind c.split_word.ensures.front c.split_word.ensures.back c.in_ok-operator.ensures
    (sym c.if-may_be_word.ensures)
