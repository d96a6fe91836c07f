use Rattle.gd_core_laws.proofs.Laws.{callers_keep}
use Rattle.gd_core_laws.proofs.callers_keep.Goals as goal

pub returns : goal.returns
returns c = callers_keep
