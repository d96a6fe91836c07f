use Rattle.std.proofs.Common.{◌∙◌, ap, map, Bor, List, ℕ}
use Rattle.std.proofs.lemmas.Result.{err_from_is_err_and}
use Rattle.gd_prim.specs.History.{prims_of}
use Rattle.gd_defs.specs.Property.{Property, expects_of}
use Rattle.gd_json.specs.View.{view as json_of}
use Rattle.gd_mql.specs.Names.{operator_view}
use Rattle.gd_plan.specs.Seen.{expects_view, test_view}
use Rattle.gd_plan.specs.Asked.{put}
use Rattle.gd_compile.specs.Fault.{unknown_of}
use Rattle.gd_compile.proofs.Walks.{tested, untested}
use Rattle.gd_compile.proofs.walk.tested_form.Goals as goal

pub returns-clause-form : goal.returns-clause-form
returns-clause-form g c =
    tested (prims_of c.args.view.now) (map (λ (n : Bor (List ℕ)). n.now) c.args.path.now) c.args.name.now.spelled.now c.args.property.now (operator_view c.args.operator) c.args.literal (json_of c.args.json.now)
    (expects_view c.expects_of-expects.result) (test_view c.in_ok-test.test) (put c.in_ok-operand_form.field-0)
    (c.expects_of-expects.ensures ∙ ap (λ (p : Property). expects_of p.expected) c.property.view_is) c.in_ok-test.ensures.test c.in_ok-operand_form.ensures

pub returns-in_err-test-clause-form : goal.returns-in_err-test-clause-form
returns-in_err-test-clause-form g c =
    let p = err_from_is_err_and c.from_residual.result c.from_residual.ensures.1 in
    rw (p.1, p.2) (λ known. untested (prims_of c.args.view.now) (map (λ (n : Bor (List ℕ)). n.now) c.args.path.now) c.args.name.now.spelled.now c.args.property.now (operator_view c.args.operator) c.args.literal (json_of c.args.json.now)
    (expects_view c.expects_of-expects.result) (unknown_of c.in_err-test.field-0.0)
    (c.expects_of-expects.ensures ∙ ap (λ (p : Property). expects_of p.expected) c.property.view_is) (c.in_err-test.ensures.test known))
