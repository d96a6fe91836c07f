use Rattle.std.proofs.Common.{◌≡◌, subst, rules}
use Rattle.gd_dump.specs.declared.stop.RestoreFault.TheVariants as fault
use Rattle.gd_restore.specs.Gathered.{IsFaultBehind}
use Rattle.gd_restore.proofs.Stopping.{no_memory}
use Rattle.gd_restore.proofs.restoring.stop_at.Goals as goal

pub returns-in-Memory-clause-stops : goal.returns-in-Memory-clause-stops
returns-in-Memory-clause-stops g c list seen whole upto behind =
    let is : c.args.fault ≡ fault.Memory = search rules in
    let (rest, parts) = subst (IsFaultBehind seen whole upto.batches) is behind in
    no_memory g.D.Disk.content g.D.Disk.images rest whole c.args.gathering.now c.args.text.now c.requires.ready.part list seen parts upto
