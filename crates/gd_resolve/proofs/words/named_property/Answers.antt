use Rattle.std.proofs.Common.{◌∙◌, sym, arith}
use Rattle.gd_prim.specs.History.{prims_of}
use Rattle.gd_resolve.proofs.Costs.{property_paid, nothing_paid, looked_up, not_found}
use Rattle.gd_resolve.proofs.words.named_property.Goals as goal

pub returns-in-Some-clause-cost : goal.returns-in-Some-clause-cost
returns-in-Some-clause-cost g c = property_paid (prims_of c.args.view.now) c.args.context c.args.word.now c.in-Some.object c.args.steps.now c.property_object.new.steps c.stated_in.new.steps
    (sym c.in-Some.is ∙ c.in_ok-object.ensures.object) c.property_object.ensures.work c.stated_in.ensures.work

pub returns-in-Some-clause-none : goal.returns-in-Some-clause-none
returns-in-Some-clause-none g c =
    let whole = property_paid (prims_of c.args.view.now) c.args.context c.args.word.now c.in-Some.object c.args.steps.now c.property_object.new.steps c.stated_in.new.steps
    (sym c.in-Some.is ∙ c.in_ok-object.ensures.object) c.property_object.ensures.work c.stated_in.ensures.work in
    omega (arith, whole)

pub returns-in-None-clause-none : goal.returns-in-None-clause-none
returns-in-None-clause-none g c = nothing_paid (prims_of c.args.view.now) c.args.context c.args.word.now c.args.steps.now c.property_object.new.steps c.property_object.ensures.work

pub returns-in-Some-clause-work : goal.returns-in-Some-clause-work
returns-in-Some-clause-work g c = looked_up (prims_of c.args.view.now) c.args.context c.args.word.now c.in-Some.object c.args.steps.now c.property_object.new.steps c.stated_in.new.steps
    (sym c.in-Some.is ∙ c.in_ok-object.ensures.object) c.property_object.ensures.work c.stated_in.ensures.work

pub returns-in-None-clause-work : goal.returns-in-None-clause-work
returns-in-None-clause-work g c = not_found (prims_of c.args.view.now) c.args.context c.args.word.now c.args.steps.now c.property_object.new.steps c.property_object.ensures.work

pub returns-in_err-object-clause-work : goal.returns-in_err-object-clause-work
returns-in_err-object-clause-work g c = not_found (prims_of c.args.view.now) c.args.context c.args.word.now c.args.steps.now c.property_object.new.steps c.property_object.ensures.work
