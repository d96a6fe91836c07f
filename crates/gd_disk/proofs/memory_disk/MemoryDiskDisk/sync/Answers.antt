use Rattle.gd_disk.proofs.Steps.{elapses_more, stays_synced}
use Rattle.gd_disk.proofs.memory_disk.MemoryDiskDisk.sync.Goals as goal

pub returns-clause-stays : goal.returns-clause-stays
returns-clause-stays c = rw (← c.self.view_is) (stays_synced _ _ _ _ c.sync.ensures.first c.sync.ensures.made)

pub returns-clause-time : goal.returns-clause-time
returns-clause-time c = rw (← c.self.view_is) (elapses_more _ _ _ _ _ c.sync.ensures.first c.sync.ensures.made)
