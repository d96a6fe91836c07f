use Rattle.std.proofs.Common.{sym, map, Bor, List, ℕ}
use Rattle.gd_prim.specs.History.{prims_of}
use Rattle.gd_json.specs.View.{view as json_of}
use Rattle.gd_tree.specs.Look.{item_count}
use Rattle.gd_mql.specs.Names.{operator_view}
use Rattle.gd_plan.specs.Seen.{expects_view, test_view, own_view}
use Rattle.gd_compile.proofs.Looked.{told_looked, untold_looked}
use Rattle.gd_compile.proofs.Spoken.{told_found, told_within}
use Rattle.gd_compile.proofs.words.own_test.Goals as goal

pub returns-in_ok-test-clause-test : goal.returns-in_ok-test-clause-test
returns-in_ok-test-clause-test g c =
    told_found (prims_of c.args.view.now) (map (λ (n : Bor (List ℕ)). n.now) c.args.path.now) (own_view c.args.own) (expects_view c.own_expects.result) (operator_view c.args.operator) (json_of c.args.json.now) (test_view c.in_ok-test.test) c.told.result
    (sym c.if-takes.ensures) c.own_expects.ensures c.in_ok-test.ensures.test c.told.ensures.test

pub returns-in_ok-test-clause-work : goal.returns-in_ok-test-clause-work
returns-in_ok-test-clause-work g c =
    told_within (prims_of c.args.view.now) (map (λ (n : Bor (List ℕ)). n.now) c.args.path.now) (own_view c.args.own) (expects_view c.own_expects.result) (operator_view c.args.operator) (json_of c.args.json.now) (test_view c.in_ok-test.test)
    c.args.steps.now c.test_of.new.steps c.told.new.steps (item_count (json_of c.args.json.now))
    (sym c.if-takes.ensures) c.own_expects.ensures c.in_ok-test.ensures.test c.in_ok-test.ensures.work c.told.ensures.work

pub returns-in_ok-test-clause-looks : goal.returns-in_ok-test-clause-looks
returns-in_ok-test-clause-looks g c =
    told_looked (prims_of c.args.view.now) (map (λ (n : Bor (List ℕ)). n.now) c.args.path.now) (own_view c.args.own) (expects_view c.own_expects.result) (operator_view c.args.operator) (json_of c.args.json.now) (test_view c.in_ok-test.test)
    c.args.steps.now c.test_of.new.steps c.told.new.steps
    (sym c.if-takes.ensures) c.own_expects.ensures c.in_ok-test.ensures.test c.test_of.ensures.ids c.told.ensures.work

pub returns-in_err-test-clause-looks : goal.returns-in_err-test-clause-looks
returns-in_err-test-clause-looks g c =
    untold_looked (prims_of c.args.view.now) (own_view c.args.own) (expects_view c.own_expects.result) (operator_view c.args.operator) (json_of c.args.json.now) c.args.steps.now c.test_of.new.steps
    (sym c.if-takes.ensures) c.own_expects.ensures c.test_of.ensures.ids
