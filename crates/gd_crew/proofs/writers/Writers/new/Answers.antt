use Rattle.gd_crew.proofs.Rounds.{begins}
use Rattle.gd_crew.proofs.writers.Writers.new.Goals as goal

pub invariant_of-new : goal.invariant_of-new
invariant_of-new g c = let d = g.D.Disk in begins d.content d.moment d.images d.images_since d.faults g.C.Clock.may _ g.met.D.Disk.only_now c.args.side c.stored-stored.ensures.keeps c.requires
