use Rattle.gd_left_laws.proofs.Laws.{link_orders_pay}
use Rattle.gd_left_laws.proofs.link_orders_pay.Goals as goal

pub returns : goal.returns
returns c = link_orders_pay
