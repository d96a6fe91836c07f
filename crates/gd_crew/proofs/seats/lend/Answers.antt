use Rattle.std.proofs.Common.{subst, sym}
use Rattle.std.specs.Prelude.{option_copied}
use Rattle.gd_crew.specs.Ready.{IsIdle}
use Rattle.gd_crew.proofs.Hired.{is_ready, cache_right, idle_popped, idle_back, idle_learned}
use Rattle.gd_crew.proofs.seats.lend.Goals as goal

pub returns-in-Ok-clause-idle : goal.returns-in-Ok-clause-idle
returns-in-Ok-clause-idle c = (idle_popped c.args.shown.history c.args.seats.now.items c.pop.new.self.items c.in-Some.session c.in-Some.ensures.items c.requires.idle).0

pub returns-in-Ok-clause-ready : goal.returns-in-Ok-clause-ready
returns-in-Ok-clause-ready c =
    let idle = idle_learned c.args.shown c.in-Some.session c.learn.new.self c.learn.ensures.told (idle_popped c.args.shown.history c.args.seats.now.items c.pop.new.self.items c.in-Some.session c.in-Some.ensures.items c.requires.idle).1 in
    is_ready c.args.shown.history (option_copied c.args.cache) c.args.works.now c.args.sid c.learn.new.self c.in_ok-jobs.jobs.items c.in-Ok.seated (cache_right c.args.cache c.args.shown.list c.learn.new.self.seat.told c.learn.ensures.begun c.requires.right) c.in_ok-jobs.ensures c.in-Ok.ensures.new idle.0 idle.1

pub returns-in-Err-clause-idle : goal.returns-in-Err-clause-idle
returns-in-Err-clause-idle c =
    let (rest, one) = idle_popped c.args.shown.history c.args.seats.now.items c.pop.new.self.items c.in-Some.session c.in-Some.ensures.items c.requires.idle in
    idle_back c.args.shown.history c.pop.new.self.items c.push_reserved.new.self.items c.in-Err.session c.push_reserved.ensures.items rest
    (subst (IsIdle c.args.shown.history) (sym c.in-Err.ensures.err) (idle_learned c.args.shown c.in-Some.session c.learn.new.self c.learn.ensures.told one))
