use Rattle.gd_order_laws.proofs.Laws.{window_keeps}
use Rattle.gd_order_laws.proofs.window_keeps.Goals as goal

pub returns : goal.returns
returns c = window_keeps
