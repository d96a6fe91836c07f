use Rattle.std.proofs.Common.{None, sym, subst}
use Rattle.gd_log.specs.Stored.{Stored, Holds}
use Rattle.gd_follow.proofs.Nodes.{held_holds}
use Rattle.gd_follow.proofs.node.Node.start.Goals as goal

pub returns-in-Ok-clause-holds : goal.returns-in-Ok-clause-holds
returns-in-Ok-clause-holds g c file is =
    let d = g.D.Disk in
    let l = c.in-Ok.log in
    subst (λ (s : Stored _). Holds (d.content s.log.disk) (d.images s.log.disk) s.log.gate s.log.doubt s.batches None) (sym c.of.ensures)
    (held_holds (d.content l.disk) (d.images l.disk) l.gate l.doubt c.in-Ok.store c.in-Ok.ensures.no_doubt (c.in-Ok.ensures.held file is))
