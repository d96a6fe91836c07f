use Rattle.std.proofs.Common.{sym, ◌∙◌}
use Rattle.gd_writer.proofs.Started.{told_so}
use Rattle.gd_writer.proofs.side.WriteSide.start.Goals as goal

pub over-requires-clause-held : goal.over-requires-clause-held
over-requires-clause-held g c = λ tells. told_so (g.D.Disk.content c.args.disk) _ (sym c.in-Ok.ensures.told ∙ tells) c.in-Ok.ensures.held
