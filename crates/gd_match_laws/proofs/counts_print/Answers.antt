use Rattle.gd_match_laws.proofs.Laws.{counts_print}
use Rattle.gd_match_laws.proofs.counts_print.Goals as goal

pub returns : goal.returns
returns c = counts_print
