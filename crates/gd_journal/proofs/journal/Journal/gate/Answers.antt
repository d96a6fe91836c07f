use Rattle.std.proofs.Common.{ap}
use Rattle.std.specs.Option.{is_some}
use Rattle.gd_journal.specs.Versions.{version_seen}
use Rattle.gd_journal.proofs.Kept.{settled_of, settled_long}
use Rattle.gd_journal.proofs.journal.Journal.gate.Goals as goal

pub returns-clause-last : goal.returns-clause-last
returns-clause-last g c = rw (← c.self.view_is) (λ f is no_doubt undamaged.
    let d = g.D.Disk in
    let i = c.self.inside in
    let s = settled_of (d.content i.disk) (d.images i.disk) (version_seen i.version) i.gate i.doubt i.damaged no_doubt undamaged (c.self.invariant (ap is_some is)) in
    settled_long (d.content i.disk) (d.images i.disk) i.gate (version_seen i.version) s.0 f s.1 (g.met.D.Disk.reads_one i.disk f is))
