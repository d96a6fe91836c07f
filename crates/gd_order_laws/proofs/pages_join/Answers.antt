use Rattle.gd_order_laws.proofs.Laws.{pages_join}
use Rattle.gd_order_laws.proofs.pages_join.Goals as goal

pub returns : goal.returns
returns c = pages_join
