use Rattle.std.proofs.Common.{◌≤◌, length}
use Rattle.gd_disk.proofs.file_disk.read_full.Given as goal

abbrev pub invariant-loop : goal.invariant-loop
invariant-loop l = l.done ≤ length l.buf
