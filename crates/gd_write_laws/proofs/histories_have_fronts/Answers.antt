use Rattle.gd_write_laws.proofs.Laws.{histories_have_fronts}
use Rattle.gd_write_laws.proofs.histories_have_fronts.Goals as goal

pub returns : goal.returns
returns c = histories_have_fronts
