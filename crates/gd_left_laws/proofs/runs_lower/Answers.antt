use Rattle.gd_left_laws.proofs.Laws.{runs_lower}
use Rattle.gd_left_laws.proofs.runs_lower.Goals as goal

pub returns : goal.returns
returns c = runs_lower
