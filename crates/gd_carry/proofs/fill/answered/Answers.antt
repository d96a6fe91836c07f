use Rattle.std.proofs.Common.{◌≤◌, ◌∙◌, ◌++◌, ap, sym, map, length, List, ℕ, arith}
use Rattle.gd_json.specs.View.{member_view}
use Rattle.gd_json.specs.declared.value.Json.{Json}
use Rattle.gd_carry.proofs.Answered.{answer_first, answer_later, answer_none}
use Rattle.gd_carry.proofs.fill.answered.Goals as goal

pub returns-then-is_connect : goal.returns-then-is_connect
returns-then-is_connect c =
    answer_first c.args.answer.now c.args.form.now c.loop-i.i c.index-form-i.result c.loop-i.members.items c.push_answer.new.members.items c.push_copies.new.members.items
    c.loop-i-test.true c.index-form-i.is (sym c.is_connect.ensures ∙ c.if-is_connect.true) c.in_ok-push_answer.ensures
    (c.in_ok-push_copies.ensures ∙ ap (λ (xs : List (List ℕ × Json)). map member_view c.push_answer.new.members.items ++ map member_view xs) c.behind.ensures)
    c.loop-i.invariant

pub loop-i-preserved : goal.loop-i-preserved
loop-i-preserved c =
    answer_later c.args.answer.now c.args.form.now c.loop-i.i c.index-form-i.result c.loop-i.members.items c.push_copy.new.members.items
    c.loop-i-test.true c.index-form-i.is (sym c.is_connect.ensures ∙ c.if-is_connect.false) c.in_ok-push_copy.ensures c.loop-i.invariant

pub returns : goal.returns
returns c =
    let ended : length c.args.form.now ≤ c.loop-i.i = omega (arith, c.loop-i-test.false) in
    answer_none c.args.answer.now c.args.form.now c.loop-i.i c.loop-i.members.items ended c.loop-i.invariant
