use Rattle.std.proofs.Common.{◌-◌, length}
use Rattle.gd_shape.proofs.shape.unknown.Given as goal

abbrev pub decreases-loop-next : goal.decreases-loop-next
decreases-loop-next l = length l.objects - l.next
