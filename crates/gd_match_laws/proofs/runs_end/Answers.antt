use Rattle.gd_match_laws.proofs.Laws.{runs_end}
use Rattle.gd_match_laws.proofs.runs_end.Goals as goal

pub returns : goal.returns
returns c = runs_end
