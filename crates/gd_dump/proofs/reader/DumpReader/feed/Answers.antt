use Rattle.std.proofs.Common.{◌∙◌, sym, ap}
use Rattle.gd_dump.proofs.Taken.{again}
use Rattle.gd_dump.proofs.reader.DumpReader.feed.Goals as goal

pub returns-in-Some-clause-fed : goal.returns-in-Some-clause-fed
returns-in-Some-clause-fed c = again c.args.self.now c.args.piece.now c.in-Some.fault (ap (λ v. v.fault) (sym c.self.view_is) ∙ c.in-Some.is)
