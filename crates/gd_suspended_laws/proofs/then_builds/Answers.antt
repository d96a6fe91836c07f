use Rattle.gd_suspended_laws.proofs.Laws.{then_builds}
use Rattle.gd_suspended_laws.proofs.then_builds.Goals as goal

pub returns : goal.returns
returns c = then_builds
