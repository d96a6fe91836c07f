use Rattle.gd_match_laws.proofs.Laws.{scans_refuse}
use Rattle.gd_match_laws.proofs.scans_refuse.Goals as goal

pub returns : goal.returns
returns c = scans_refuse
