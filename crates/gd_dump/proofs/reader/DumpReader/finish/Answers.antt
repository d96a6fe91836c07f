use Rattle.std.proofs.Common.{◌∙◌, Err, sym, ap}
use Rattle.gd_dump.proofs.Taken.{finished_again, finds}
use Rattle.gd_dump.proofs.reader.DumpReader.finish.Goals as goal

pub returns-in-Some-clause-finished : goal.returns-in-Some-clause-finished
returns-in-Some-clause-finished c = finished_again c.args.self.now c.in-Some.fault (ap (λ v. v.fault) (sym c.self.view_is) ∙ c.in-Some.is)

pub returns-in-Some-clause-found : goal.returns-in-Some-clause-found
returns-in-Some-clause-found c = finds c.args.self.now (Err c.in-Some.fault) (finished_again c.args.self.now c.in-Some.fault (ap (λ v. v.fault) (sym c.self.view_is) ∙ c.in-Some.is))

pub returns-in-None-clause-found : goal.returns-in-None-clause-found
returns-in-None-clause-found c = finds c.args.self.now c.ended.result c.ended.ensures
