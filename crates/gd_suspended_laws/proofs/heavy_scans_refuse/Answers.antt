use Rattle.gd_suspended_laws.proofs.Laws.{heavy_scans_refuse}
use Rattle.gd_suspended_laws.proofs.heavy_scans_refuse.Goals as goal

pub returns : goal.returns
returns c = heavy_scans_refuse
