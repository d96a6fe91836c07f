use Rattle.gd_order_laws.proofs.Laws.{rows_are_ordered}
use Rattle.gd_order_laws.proofs.rows_are_ordered.Goals as goal

pub returns : goal.returns
returns c = rows_are_ordered
