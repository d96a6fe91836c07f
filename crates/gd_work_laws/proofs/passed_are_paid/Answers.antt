use Rattle.gd_work_laws.proofs.Laws.{passed_are_paid}
use Rattle.gd_work_laws.proofs.passed_are_paid.Goals as goal

pub returns : goal.returns
returns c = passed_are_paid
