use Rattle.std.proofs.lemmas.Result.{IfOk-weaker}
use Rattle.gd_plan.specs.Asked.{asked_view}
use Rattle.gd_shape.specs.Shaping.{shape_due}
use Rattle.gd_shape.proofs.Due.{due_paid}
use Rattle.gd_shape.proofs.shape.Shape.start.Goals as goal

pub returns-clause-paid : goal.returns-clause-paid
returns-clause-paid c = IfOk-weaker c.start_at.result _ _
    (λ shape due prims rows is. due_paid prims (asked_view c.args.asked) c.args.body rows (shape_due prims shape) is (due prims)) c.start_at.ensures.due
