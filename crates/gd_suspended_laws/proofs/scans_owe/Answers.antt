use Rattle.gd_suspended_laws.proofs.Laws.{scans_owe}
use Rattle.gd_suspended_laws.proofs.scans_owe.Goals as goal

pub returns : goal.returns
returns c = scans_owe
