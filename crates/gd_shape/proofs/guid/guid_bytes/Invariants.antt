use Rattle.std.proofs.Common.{◌≤◌, ◌-◌}
use Rattle.gd_shape.proofs.Guids.{EndsIn}
use Rattle.gd_shape.proofs.guid.guid_bytes.Given as goal

abbrev pub invariant-loop-done : goal.invariant-loop-done
invariant-loop-done l = record { within : l.done ≤ 8; ends : EndsIn l.fn.place l.left (8 - l.done) l.bytes }
