use Rattle.std.proofs.Common.{subst, sym}
use Rattle.gd_bytes.specs.Frozen.{Body}
use Rattle.gd_shape.specs.PassedOn.{marks_of, page_objects}
use Rattle.gd_read.specs.Freezing.{BodyStands}
use Rattle.gd_read.specs.Stages.{StageOwes}
use Rattle.gd_read.specs.declared.stage.Stage.{Stage}
use Rattle.gd_plan.specs.Asked.{asked_view}
use Rattle.gd_read.proofs.Frozen.{gathered_stands, row_tells}
use Rattle.gd_read.proofs.freezing.freeze_stage.Goals as goal

pub frozen_with-requires : goal.frozen_with-requires
frozen_with-requires c =
    subst (λ (b : Body). BodyStands c.args.view.now c.args.subject.now (marks_of c.args.window.now) b) (sym c.in_ok-body-in-Gathering.ensures)
    (gathered_stands c.args.view.now c.args.subject.now c.in-Gathering.gathering c.args.window.now
    (subst (λ (st : Stage). StageOwes c.args.view.now c.args.subject.now st c.args.window.now) c.in-Gathering.is c.requires))

pub gathered_body-requires-clause-told : goal.gathered_body-requires-clause-told
gathered_body-requires-clause-told c =
    let gathers = subst (λ (st : Stage). StageOwes c.args.view.now c.args.subject.now st c.args.window.now) c.in-Gathering.is c.requires in
    (row_tells c.args.view.now (asked_view c.in-Gathering.gathering.plan) (page_objects c.args.window.now) c.in-Gathering.gathering.next c.in-Gathering.gathering.tried gathers.scanned.asked.end gathers.rows.tries).0

pub gathered_body-requires-clause-next : goal.gathered_body-requires-clause-next
gathered_body-requires-clause-next c =
    let gathers = subst (λ (st : Stage). StageOwes c.args.view.now c.args.subject.now st c.args.window.now) c.in-Gathering.is c.requires in
    (row_tells c.args.view.now (asked_view c.in-Gathering.gathering.plan) (page_objects c.args.window.now) c.in-Gathering.gathering.next c.in-Gathering.gathering.tried gathers.scanned.asked.end gathers.rows.tries).1
