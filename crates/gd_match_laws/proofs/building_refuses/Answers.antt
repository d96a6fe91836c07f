use Rattle.gd_match_laws.proofs.Laws.{building_refuses}
use Rattle.gd_match_laws.proofs.building_refuses.Goals as goal

pub returns : goal.returns
returns c = building_refuses
