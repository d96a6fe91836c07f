use Rattle.gd_match_laws.proofs.Laws.{readings_print}
use Rattle.gd_match_laws.proofs.readings_print.Goals as goal

pub returns : goal.returns
returns c = readings_print
