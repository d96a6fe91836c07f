use Rattle.gd_match_laws.proofs.Laws.{runs_give}
use Rattle.gd_match_laws.proofs.runs_give.Goals as goal

pub returns : goal.returns
returns c = runs_give
