use Rattle.gd_left_laws.proofs.Laws.{row_orders_pay}
use Rattle.gd_left_laws.proofs.row_orders_pay.Goals as goal

pub returns : goal.returns
returns c = row_orders_pay
