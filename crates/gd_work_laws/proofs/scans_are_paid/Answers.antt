use Rattle.gd_work_laws.proofs.Laws.{scans_are_paid}
use Rattle.gd_work_laws.proofs.scans_are_paid.Goals as goal

pub returns : goal.returns
returns c = scans_are_paid
