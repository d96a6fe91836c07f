use Rattle.gd_match_laws.proofs.Laws.{runs_keep}
use Rattle.gd_match_laws.proofs.runs_keep.Goals as goal

pub returns : goal.returns
returns c = runs_keep
