use Rattle.gd_match_laws.proofs.Laws.{candidates_run}
use Rattle.gd_match_laws.proofs.candidates_run.Goals as goal

pub returns : goal.returns
returns c = candidates_run
