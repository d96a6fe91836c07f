use Rattle.gd_core_laws.proofs.Laws.{writes_keep_history}
use Rattle.gd_core_laws.proofs.writes_keep_history.Goals as goal

pub returns : goal.returns
returns c = writes_keep_history
