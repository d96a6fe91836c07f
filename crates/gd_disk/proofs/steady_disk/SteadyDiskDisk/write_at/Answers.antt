use Rattle.gd_disk.proofs.steady_disk.SteadyDiskDisk.write_at.Goals as goal

pub returns-clause-time : goal.returns-clause-time
returns-clause-time c = rw (← c.self.view_is) c.write_at.ensures.time
