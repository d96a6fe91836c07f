use Rattle.gd_work_laws.proofs.Laws.{clauses_are_paid}
use Rattle.gd_work_laws.proofs.clauses_are_paid.Goals as goal

pub returns : goal.returns
returns c = clauses_are_paid
