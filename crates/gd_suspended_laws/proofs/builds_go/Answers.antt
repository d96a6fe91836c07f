use Rattle.gd_suspended_laws.proofs.Laws.{builds_go_on}
use Rattle.gd_suspended_laws.proofs.builds_go.Goals as goal

pub returns : goal.returns
returns c = builds_go_on
