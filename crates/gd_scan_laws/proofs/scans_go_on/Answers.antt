use Rattle.gd_scan_laws.proofs.Laws.{scans_go_on}
use Rattle.gd_scan_laws.proofs.scans_go_on.Goals as goal

pub returns : goal.returns
returns c = scans_go_on
