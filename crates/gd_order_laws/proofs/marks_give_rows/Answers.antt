use Rattle.gd_order_laws.proofs.Laws.{marks_give_rows}
use Rattle.gd_order_laws.proofs.marks_give_rows.Goals as goal

pub returns : goal.returns
returns c = marks_give_rows
