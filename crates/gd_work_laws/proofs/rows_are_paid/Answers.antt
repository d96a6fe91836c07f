use Rattle.gd_work_laws.proofs.Laws.{rows_are_paid}
use Rattle.gd_work_laws.proofs.rows_are_paid.Goals as goal

pub returns : goal.returns
returns c = rows_are_paid
