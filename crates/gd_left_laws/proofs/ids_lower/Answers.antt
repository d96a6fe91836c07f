use Rattle.gd_left_laws.proofs.Laws.{ids_lower}
use Rattle.gd_left_laws.proofs.ids_lower.Goals as goal

pub returns : goal.returns
returns c = ids_lower
