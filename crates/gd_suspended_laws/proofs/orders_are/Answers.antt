use Rattle.gd_suspended_laws.proofs.Laws.{orders_are}
use Rattle.gd_suspended_laws.proofs.orders_are.Goals as goal

pub returns : goal.returns
returns c = orders_are
