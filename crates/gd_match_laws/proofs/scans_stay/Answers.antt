use Rattle.gd_match_laws.proofs.Laws.{scans_stay}
use Rattle.gd_match_laws.proofs.scans_stay.Goals as goal

pub returns : goal.returns
returns c = scans_stay
