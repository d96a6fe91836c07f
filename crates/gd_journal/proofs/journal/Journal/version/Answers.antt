use Rattle.std.proofs.Common.{ap}
use Rattle.std.specs.Option.{is_some}
use Rattle.gd_journal.specs.Versions.{version_seen}
use Rattle.gd_journal.proofs.Kept.{standing_version}
use Rattle.gd_journal.proofs.journal.Journal.version.Goals as goal

pub returns-clause-header : goal.returns-clause-header
returns-clause-header g c = rw (← c.self.view_is) (λ f is.
    let d = g.D.Disk in
    let i = c.self.inside in
    standing_version (d.content i.disk) (d.images i.disk) (version_seen i.version) i.gate i.doubt i.damaged f (c.self.invariant (ap is_some is)) (g.met.D.Disk.reads_one i.disk f is))
