use Rattle.std.proofs.Common.{◌∙◌}
use Rattle.gd_disk.proofs.Images.{step_redone}
use Rattle.gd_disk.proofs.undoing.redo.Goals as goal

pub loop-step-preserved : goal.loop-step-preserved
loop-step-preserved c = c.loop-step.invariant ∙ step_redone c.args.byte c.loop-step.steps.items c.pop.new.self.items c.in-Some.step c.loop-step.file.items c.in_ok-file.file.items c.in-Some.ensures.items c.in_ok-file.ensures
