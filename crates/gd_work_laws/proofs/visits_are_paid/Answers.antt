use Rattle.gd_work_laws.proofs.Laws.{visits_are_paid}
use Rattle.gd_work_laws.proofs.visits_are_paid.Goals as goal

pub returns : goal.returns
returns c = visits_are_paid
