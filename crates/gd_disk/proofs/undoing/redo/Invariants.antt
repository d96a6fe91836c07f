use Rattle.std.proofs.Common.{◌≡◌, vec_len}
use Rattle.gd_disk.specs.Images.{after_steps}
use Rattle.gd_disk.proofs.undoing.redo.Given as goal

abbrev pub invariant-loop-step : goal.invariant-loop-step
invariant-loop-step l = after_steps l.byte l.initial.steps.items l.initial.file.items ≡ after_steps l.byte l.steps.items l.file.items

abbrev pub decreases-loop-step : goal.decreases-loop-step
decreases-loop-step l = vec_len l.steps
