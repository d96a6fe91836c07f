use Rattle.std.proofs.Common.{◌+◌, drop, map, Bor, List, ℕ, arith, rules}
use Rattle.gd_prim.specs.History.{prims_of}
use Rattle.gd_defs.specs.Asked.Tests.{operand_data}
use Rattle.gd_json.specs.View.{view, items_view}
use Rattle.gd_plan.specs.Seen.{expects_view}
use Rattle.gd_tree.specs.Json.{list}
use Rattle.gd_compile.specs.Looks.{operand_steps}
use Rattle.gd_compile.proofs.Looked.{operand_there, operand_taken, items_left, items_ended}
use Rattle.gd_compile.proofs.operand.operand_data.Goals as goal

pub returns-in_err-datum-clause-ids : goal.returns-in_err-datum-clause-ids
returns-in_err-datum-clause-ids g c =
    let next = items_left (expects_view c.args.expects) (view c.json-item.result) (items_view (drop (c.loop-json.json-index + 1) c.args.operands.now)) (items_view (drop c.loop-json.json-index c.args.operands.now)) c.loop-json.steps c.operand_datum.new.steps
    (c.args.steps.now + operand_steps (expects_view c.args.expects) (list (items_view c.args.operands.now)))
    (operand_there c.args.operands.now c.loop-json.json-index c.json-item.result c.loop-json-test.true c.json-item.is) c.loop-json.invariant.ids c.operand_datum.ensures.ids in
    items_ended _ _ _ next

pub returns-in_err-push_datum-clause-ids : goal.returns-in_err-push_datum-clause-ids
returns-in_err-push_datum-clause-ids g c =
    let next = items_left (expects_view c.args.expects) (view c.json-item.result) (items_view (drop (c.loop-json.json-index + 1) c.args.operands.now)) (items_view (drop c.loop-json.json-index c.args.operands.now)) c.loop-json.steps c.operand_datum.new.steps
    (c.args.steps.now + operand_steps (expects_view c.args.expects) (list (items_view c.args.operands.now)))
    (operand_there c.args.operands.now c.loop-json.json-index c.json-item.result c.loop-json-test.true c.json-item.is) c.loop-json.invariant.ids c.operand_datum.ensures.ids in
    items_ended _ _ _ next

pub loop-json-preserved : goal.loop-json-preserved
loop-json-preserved g c = record {
  left = operand_taken (prims_of c.args.view.now) (expects_view c.args.expects) (map (λ (n : Bor (List ℕ)). n.now) c.args.path.now) c.args.operands.now c.loop-json.json-index c.json-item.result c.in_ok-datum.datum c.loop-json.read.items
      c.push_datum.new.read.items (operand_data (prims_of c.args.view.now) (expects_view c.args.expects) (map (λ (n : Bor (List ℕ)). n.now) c.args.path.now) (items_view c.args.operands.now))
      c.loop-json-test.true c.json-item.is c.loop-json.invariant.left c.in_ok-datum.ensures.datum c.in_ok-push_datum.ensures;
  ids = items_left (expects_view c.args.expects) (view c.json-item.result) (items_view (drop (c.loop-json.json-index + 1) c.args.operands.now)) (items_view (drop c.loop-json.json-index c.args.operands.now)) c.loop-json.steps c.operand_datum.new.steps
      (c.args.steps.now + operand_steps (expects_view c.args.expects) (list (items_view c.args.operands.now)))
      (operand_there c.args.operands.now c.loop-json.json-index c.json-item.result c.loop-json-test.true c.json-item.is) c.loop-json.invariant.ids c.operand_datum.ensures.ids;
  work = let few = c.operand_datum.ensures.work in let all = c.loop-json.invariant.work in omega (arith, few, all);
  later = search rules;
}

pub returns-clause-ids : goal.returns-clause-ids
returns-clause-ids g c = items_ended _ _ _ c.loop-json.invariant.ids
