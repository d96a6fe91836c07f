use Rattle.gd_suspended_laws.proofs.Visited.{visits_end_early}
use Rattle.gd_suspended_laws.proofs.visits_end_early.Goals as goal

pub returns : goal.returns
returns c = visits_end_early
