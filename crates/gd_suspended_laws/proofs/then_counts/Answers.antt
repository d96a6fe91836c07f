use Rattle.gd_suspended_laws.proofs.Laws.{then_counts}
use Rattle.gd_suspended_laws.proofs.then_counts.Goals as goal

pub returns : goal.returns
returns c = then_counts
