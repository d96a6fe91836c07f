use Rattle.gd_suspended_laws.proofs.Visited.{visits_end}
use Rattle.gd_suspended_laws.proofs.visits_end.Goals as goal

pub returns : goal.returns
returns c = visits_end
