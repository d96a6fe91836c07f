use Rattle.std.proofs.Common.{◌∙◌}
use Rattle.gd_log.proofs.Opens.{held_finished}
use Rattle.gd_log.proofs.opening.complete.Goals as goal

pub returns-in-Ok-clause-held : goal.returns-in-Ok-clause-held
returns-in-Ok-clause-held g c = rw c.of.ensures (λ f is loads.
    let d = g.D.Disk in
    let j = c.in-Ok.journal in
    held_finished (d.content j.disk) (d.images j.disk) c.args.opening.version j.version j.gate f j.damaged c.args.store _ (c.in-Ok.ensures.damaged ∙ c.requires.undamaged) c.in-Ok.ensures.version (c.in-Ok.ensures.opened f is) loads)
