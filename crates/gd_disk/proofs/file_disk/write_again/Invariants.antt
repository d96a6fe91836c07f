use Rattle.std.proofs.Common.{◌-◌}
use Rattle.gd_disk.proofs.file_disk.write_again.Given as goal

abbrev pub decreases-loop-at : goal.decreases-loop-at
decreases-loop-at l = l.to - l.at
