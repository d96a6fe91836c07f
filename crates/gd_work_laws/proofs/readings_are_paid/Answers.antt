use Rattle.gd_work_laws.proofs.Laws.{readings_are_paid}
use Rattle.gd_work_laws.proofs.readings_are_paid.Goals as goal

pub returns : goal.returns
returns c = readings_are_paid
