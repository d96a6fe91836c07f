use Rattle.gd_suspended_laws.proofs.Laws.{heavy_builds_refuse}
use Rattle.gd_suspended_laws.proofs.heavy_builds_refuse.Goals as goal

pub returns : goal.returns
returns c = heavy_builds_refuse
