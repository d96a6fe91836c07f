use Rattle.gd_suspended_laws.proofs.Laws.{heavy_pages_refuse}
use Rattle.gd_suspended_laws.proofs.heavy_pages_refuse.Goals as goal

pub returns : goal.returns
returns c = heavy_pages_refuse
