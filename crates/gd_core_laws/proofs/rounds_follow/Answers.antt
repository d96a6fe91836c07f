use Rattle.gd_core_laws.proofs.Laws.{rounds_follow}
use Rattle.gd_core_laws.proofs.rounds_follow.Goals as goal

pub returns : goal.returns
returns c = rounds_follow
