use Rattle.gd_work_laws.proofs.Laws.{pages_are_paid}
use Rattle.gd_work_laws.proofs.pages_are_paid.Goals as goal

pub returns : goal.returns
returns c = pages_are_paid
