use Rattle.gd_work_laws.proofs.Laws.{candidates_are_paid}
use Rattle.gd_work_laws.proofs.candidates_are_paid.Goals as goal

pub returns : goal.returns
returns c = candidates_are_paid
