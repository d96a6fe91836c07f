use Rattle.gd_scan_laws.proofs.Laws.{readings_owe}
use Rattle.gd_scan_laws.proofs.readings_owe.Goals as goal

pub returns : goal.returns
returns c = readings_owe
