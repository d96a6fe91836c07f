use Rattle.gd_write_laws.proofs.Laws.{lists_stay_typed}
use Rattle.gd_write_laws.proofs.lists_stay_typed.Goals as goal

pub returns : goal.returns
returns c = lists_stay_typed
