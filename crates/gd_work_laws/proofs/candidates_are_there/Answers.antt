use Rattle.gd_work_laws.proofs.Laws.{candidates_are_there}
use Rattle.gd_work_laws.proofs.candidates_are_there.Goals as goal

pub returns : goal.returns
returns c = candidates_are_there
