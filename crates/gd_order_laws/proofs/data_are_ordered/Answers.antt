use Rattle.gd_order_laws.proofs.Laws.{data_are_ordered}
use Rattle.gd_order_laws.proofs.data_are_ordered.Goals as goal

pub returns : goal.returns
returns c = data_are_ordered
