use Rattle.gd_suspended_laws.proofs.Visited.{heavy_visits_refuse}
use Rattle.gd_suspended_laws.proofs.heavy_visits_refuse.Goals as goal

pub returns : goal.returns
returns c = heavy_visits_refuse
