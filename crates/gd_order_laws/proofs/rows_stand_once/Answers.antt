use Rattle.gd_order_laws.proofs.Laws.{rows_stand_once}
use Rattle.gd_order_laws.proofs.rows_stand_once.Goals as goal

pub returns : goal.returns
returns c = rows_stand_once
