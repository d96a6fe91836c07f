use Rattle.std.proofs.Common.{◌+◌, length}
use Rattle.gd_threads.proofs.Sides.{joins_none}
use Rattle.gd_threads.proofs.working.join.Goals as goal

-- nobody works where not all lines were read
pub returns-then-not-works-clause-joins : goal.returns-then-not-works-clause-joins
returns-then-not-works-clause-joins g c =
    let d = g.D.Disk in
    joins_none d.content d.moment d.images d.images_since d.faults g.C.Clock.may c.args.first (c.args.first + length c.args.lines.now) c.args.works.now c.args.side.now c.requires.keeps c.requires.within c.requires.fresh c.requires.none
