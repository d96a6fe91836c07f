use Rattle.gd_work_laws.proofs.Laws.{ids_are_paid}
use Rattle.gd_work_laws.proofs.ids_are_paid.Goals as goal

pub returns : goal.returns
returns c = ids_are_paid
