use Rattle.gd_threads.proofs.Sides.{shows_more}
use Rattle.gd_threads.proofs.working.show.Goals as goal

pub returns-clause-shows : goal.returns-clause-shows
returns-clause-shows g c =
    let d = g.D.Disk in
    shows_more d.content d.images g.C.Clock.may c.args.side.now c.publish_late-shown.new.self c.publish_late-shown.result c.stored-stored.ensures.keeps c.publish_late-shown.ensures.shown c.publish_late-shown.ensures.err

pub returns-clause-keeps : goal.returns-clause-keeps
returns-clause-keeps g c = record { keeps = c.stored-kept.ensures.keeps; only = g.met.D.Disk.only_now c.publish_late-shown.new.self.log.disk }
