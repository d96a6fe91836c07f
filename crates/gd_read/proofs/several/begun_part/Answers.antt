use Rattle.gd_prim.specs.History.{prims_of}
use Rattle.gd_mql.specs.Requests.{read_view}
use Rattle.gd_plan.specs.Asked.{asked_view}
use Rattle.gd_read.proofs.Starts.{starts_paid}
use Rattle.gd_read.proofs.several.begun_part.Goals as goal

pub returns-in_err-planned-in-Ok-clause-work : goal.returns-in_err-planned-in-Ok-clause-work
returns-in_err-planned-in-Ok-clause-work g c =
    starts_paid (prims_of c.args.view.now) (read_view c.args.request).query (asked_view c.in-Ok.plan) c.args.steps.now c.plan_at.new.steps c.planned.new.steps c.in-Ok.ensures.planned c.in-Ok.ensures.room
    c.planned.ensures.work

pub returns-in_ok-planned-in-Ok-clause-work : goal.returns-in_ok-planned-in-Ok-clause-work
returns-in_ok-planned-in-Ok-clause-work g c =
    starts_paid (prims_of c.args.view.now) (read_view c.args.request).query (asked_view c.in-Ok.plan) c.args.steps.now c.plan_at.new.steps c.planned.new.steps c.in-Ok.ensures.planned c.in-Ok.ensures.room
    c.planned.ensures.work
