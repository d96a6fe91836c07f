use Rattle.std.proofs.Common.{◌≤◌, length, sym, subst, refl}
use Rattle.gd_disk.specs.Recorded.{Recorded, held}
use Rattle.gd_disk.proofs.Steps.{elapses_more, follows_cut}
use Rattle.gd_disk.proofs.memory_disk.MemoryDiskDisk.cut.Goals as goal

pub returns-clause-images : goal.returns-clause-images
returns-clause-images c =
    let within = subst (λ (v : Recorded). c.args.len ≤ length (held v.first v.made)) (sym c.self.view_is) (c.requires.within (held c.args.self.now.first c.args.self.now.made) refl) in
    rw (← c.self.view_is) (follows_cut _ _ _ _ c.args.len within c.cut.ensures.first c.cut.ensures.made)

pub returns-clause-time : goal.returns-clause-time
returns-clause-time c = rw (← c.self.view_is) (elapses_more _ _ _ _ _ c.cut.ensures.first c.cut.ensures.made)
