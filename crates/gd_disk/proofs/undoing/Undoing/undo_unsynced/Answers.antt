use Rattle.std.proofs.Common.{◌∙◌}
use Rattle.gd_disk.proofs.Images.{went_on}
use Rattle.gd_disk.proofs.undoing.Undoing.undo_unsynced.Goals as goal

pub loop-call-preserved : goal.loop-call-preserved
loop-call-preserved c =
    let back = went_on c.loop-call.self c.undo.new.self c.loop-call.calls.items c.pop.new.self.items c.in-Some.call c.in_ok-step.field-0 c.in-Some-2.step c.loop-call.steps.items c.push.new.self.items
    c.in-Some.ensures.items c.in_ok-step.ensures c.in-Some-2.is c.in_ok-push-in-Some-2.ensures.items in
    (c.loop-call.invariant.0 ∙ back.drops, λ x. c.loop-call.invariant.1 x ∙ back.fills x)
