use Rattle.gd_suspended_laws.proofs.Gathered.{pages_refuse}
use Rattle.gd_suspended_laws.proofs.pages_refuse.Goals as goal

pub returns : goal.returns
returns c = pages_refuse
