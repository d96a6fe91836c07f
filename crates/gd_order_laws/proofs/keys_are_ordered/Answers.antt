use Rattle.gd_order_laws.proofs.Laws.{keys_are_ordered}
use Rattle.gd_order_laws.proofs.keys_are_ordered.Goals as goal

pub returns : goal.returns
returns c = keys_are_ordered
