use Rattle.gd_scan_laws.proofs.Laws.{orders_do_not_matter}
use Rattle.gd_scan_laws.proofs.orders_do_not_matter.Goals as goal

pub returns : goal.returns
returns c = orders_do_not_matter
