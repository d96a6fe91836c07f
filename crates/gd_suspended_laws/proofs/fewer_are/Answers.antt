use Rattle.gd_suspended_laws.proofs.Fewer.{fewer_are}
use Rattle.gd_suspended_laws.proofs.fewer_are.Goals as goal

pub returns : goal.returns
returns c = fewer_are
