use Rattle.std.proofs.Common.{map, take}
use Rattle.gd_round_lines.specs.Works.{write_of}
use Rattle.gd_caller.specs.Writes.{WritesLeft}
use Rattle.gd_caller.proofs.writes.write_left.Given as goal

abbrev pub invariant-loop-write : goal.invariant-loop-write
invariant-loop-write g l = WritesLeft g.D.Disk.content g.D.Disk.moment g.D.Disk.images g.D.Disk.images_since g.D.Disk.faults g.C.Clock.may l.fn.side l.side (map write_of (take l.write-index l.writes))
