use Rattle.gd_order_laws.proofs.Laws.{rows_follow_marks}
use Rattle.gd_order_laws.proofs.rows_follow_marks.Goals as goal

pub returns : goal.returns
returns c = rows_follow_marks
