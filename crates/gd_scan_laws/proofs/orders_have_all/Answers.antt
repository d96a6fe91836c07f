use Rattle.gd_scan_laws.proofs.Laws.{orders_have_all}
use Rattle.gd_scan_laws.proofs.orders_have_all.Goals as goal

pub returns : goal.returns
returns c = orders_have_all
