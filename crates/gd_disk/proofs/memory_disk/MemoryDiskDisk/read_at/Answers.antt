use Rattle.gd_disk.proofs.Steps.{elapses_same}
use Rattle.gd_disk.proofs.memory_disk.MemoryDiskDisk.read_at.Goals as goal

pub returns-clause-time : goal.returns-clause-time
returns-clause-time c = rw (← c.self.view_is) (elapses_same _ _)
