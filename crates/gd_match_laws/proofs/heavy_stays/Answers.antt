use Rattle.gd_match_laws.proofs.Laws.{heavy_stays}
use Rattle.gd_match_laws.proofs.heavy_stays.Goals as goal

pub returns : goal.returns
returns c = heavy_stays
