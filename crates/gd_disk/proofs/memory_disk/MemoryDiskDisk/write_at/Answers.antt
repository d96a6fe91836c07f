use Rattle.std.proofs.Common.{◌≤◌, length, sym, subst, refl}
use Rattle.gd_disk.specs.Recorded.{Recorded, held}
use Rattle.gd_disk.proofs.Steps.{elapses_more, follows_write, tells_torn}
use Rattle.gd_disk.proofs.memory_disk.MemoryDiskDisk.write_at.Goals as goal

within : (c : goal.After-write) → c.args.at ≤ length (held c.self.inside.file.first c.self.inside.file.made)
within c = subst (λ (v : Recorded). c.args.at ≤ length (held v.first v.made)) (sym c.self.view_is) (c.requires.within (held c.args.self.now.first c.args.self.now.made) refl)

pub returns-clause-told : goal.returns-clause-told
returns-clause-told c = rw (← c.self.view_is) (tells_torn _ _ _ _ c.args.at c.args.bytes.now (within c) c.write.ensures.first c.write.ensures.made)

pub returns-clause-images : goal.returns-clause-images
returns-clause-images c = rw (← c.self.view_is) (follows_write _ _ _ _ c.args.at c.args.bytes.now (within c) c.write.ensures.first c.write.ensures.made)

pub returns-clause-time : goal.returns-clause-time
returns-clause-time c = rw (← c.self.view_is) (elapses_more _ _ _ _ _ c.write.ensures.first c.write.ensures.made)
