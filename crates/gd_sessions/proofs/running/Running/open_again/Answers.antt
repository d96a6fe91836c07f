use Rattle.std.proofs.Common.{ap, ◌∙◌}
use Rattle.gd_sessions.specs.Running.{RunningValue}
use Rattle.gd_sessions.specs.Held.{sessions_of}
use Rattle.gd_sessions.proofs.Left.{lost_stands}
use Rattle.gd_sessions.proofs.Opened.{reopens_run}
use Rattle.gd_sessions.proofs.Paced.{new_within}
use Rattle.gd_sessions.proofs.running.Running.open_again.Goals as goal

pub returns-in-Ok-clause-step : goal.returns-in-Ok-clause-step
returns-in-Ok-clause-step g c =
    let same = ap (λ (r : RunningValue _ _). r.side) c.running.view_is in
    reopens_run g.D.Disk.content g.D.Disk.images g.C.Clock.may (g.C.Clock.may c.close-disk.result.1) g.met.D.Disk.reads_one c.args.self.side c.close-disk.result.0 c.in-Ok.running c.args.self.held c.args.held.items c.shown-shown.ensures.keeps
    (ap (λ (pair : _ × _). pair.0) c.close-disk.ensures ∙ ap (λ (r : RunningValue _ _). r.side.log.disk) c.self.view_is) c.in-Ok.ensures.begins c.in-Ok.ensures.held c.requires.new c.args.line c.stored.result c.reopened-reply.result c.running.inside.side same c.stored.ensures.count c.reopened-reply.ensures

pub returns-clause-holds : goal.returns-clause-holds
returns-clause-holds g c =
    let d = g.D.Disk in
    lost_stands d.content d.moment d.images d.images_since d.faults g.C.Clock.may c.args.self.side (sessions_of c.args.self.held) c.close-disk.result.0 c.in-Err.refused.1 c.shown-shown.ensures.keeps
    (ap (λ (pair : _ × _). pair.0) c.close-disk.ensures ∙ ap (λ (r : RunningValue _ _). r.side.log.disk) c.self.view_is) c.in-Err.ensures.disk

pub returns-in-Ok-clause-left : goal.returns-in-Ok-clause-left
returns-in-Ok-clause-left g c = new_within c.args.self c.in-Ok.running c.args.held.items c.in-Ok.ensures.held c.requires.new
