use Rattle.gd_suspended_laws.proofs.Laws.{then_prints}
use Rattle.gd_suspended_laws.proofs.then_prints.Goals as goal

pub returns : goal.returns
returns c = then_prints
