use Rattle.std.proofs.Common.{Option, subst}
use Rattle.gd_mql.specs.Requests.{read_view}
use Rattle.gd_plan.specs.Asked.{asked_view}
use Rattle.gd_frozen.specs.Meaning.{reading_of}
use Rattle.gd_held.specs.Thawed.{PlanThaws}
use Rattle.gd_held.specs.declared.thawed.ThawedReading.{ThawedReading}
use Rattle.gd_held.proofs.Coming.{meaningless_comes, unfit_comes, goes_comes}
use Rattle.gd_held.proofs.thawed.ThawedReading.thaw.Goals as goal

pub returns-in-Err-clause-thaws : goal.returns-in-Err-clause-thaws
returns-in-Err-clause-thaws g c = c.in-Err.ensures.refused c.args.store.now (read_view c.args.request)

pub returns-in-Err-plan_at-clause-thaws : goal.returns-in-Err-plan_at-clause-thaws
returns-in-Err-plan_at-clause-thaws g c =
    meaningless_comes c.args.store.now c.args.shown (read_view c.args.request) c.args.text.now (reading_of c.in-Ok.frozen) c.view-view.result c.in-Err-plan_at.fault
    c.in-Ok.ensures.read c.in-Ok.ensures.below c.requires.shown c.view-view.ensures c.in-Err-plan_at.ensures.planned c.in-Err-plan_at.ensures.offset

pub returns-in-Ok-Some-clause-thaws : goal.returns-in-Ok-Some-clause-thaws
returns-in-Ok-Some-clause-thaws g c =
    goes_comes c.args.store.now c.args.shown (read_view c.args.request) c.args.text.now (reading_of c.in-Ok.frozen) c.view-view.result (asked_view c.in-Ok-plan_at.plan) c.in-Ok-Some.reading
    c.in-Ok.ensures.read c.in-Ok.ensures.below c.view-view.ensures c.in-Ok-plan_at.ensures.planned
    (subst (λ (o : Option ThawedReading). PlanThaws c.view-view.result (read_view c.args.request) (asked_view c.in-Ok-plan_at.plan) (reading_of c.in-Ok.frozen) o) c.in-Ok-Some.field-0-is c.in-Ok-Some.ensures.thaws)

pub returns-in-Ok-None-clause-thaws : goal.returns-in-Ok-None-clause-thaws
returns-in-Ok-None-clause-thaws g c =
    unfit_comes c.args.store.now c.args.shown (read_view c.args.request) c.args.text.now (reading_of c.in-Ok.frozen) c.view-view.result (asked_view c.in-Ok-plan_at.plan) c.length_of.result
    c.in-Ok.ensures.read c.in-Ok.ensures.below c.view-view.ensures c.in-Ok-plan_at.ensures.planned
    (subst (λ (o : Option ThawedReading). PlanThaws c.view-view.result (read_view c.args.request) (asked_view c.in-Ok-plan_at.plan) (reading_of c.in-Ok.frozen) o) c.in-Ok-None.field-0-is c.in-Ok-None.ensures.thaws)
    c.length_of.ensures.is c.length_of.ensures.small
