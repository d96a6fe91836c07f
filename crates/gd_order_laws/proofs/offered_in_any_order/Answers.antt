use Rattle.gd_order_laws.proofs.Laws.{offered_in_any_order}
use Rattle.gd_order_laws.proofs.offered_in_any_order.Goals as goal

pub returns : goal.returns
returns c = offered_in_any_order
