use Rattle.gd_write_laws.proofs.Laws.{links_stand_above}
use Rattle.gd_write_laws.proofs.links_stand_above.Goals as goal

pub returns : goal.returns
returns c = links_stand_above
