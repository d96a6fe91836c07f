use Rattle.gd_left_laws.proofs.Laws.{orders_pay}
use Rattle.gd_left_laws.proofs.orders_pay.Goals as goal

pub returns : goal.returns
returns c = orders_pay
