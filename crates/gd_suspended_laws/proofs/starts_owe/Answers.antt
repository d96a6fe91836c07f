use Rattle.gd_suspended_laws.proofs.Laws.{starts_owe}
use Rattle.gd_suspended_laws.proofs.starts_owe.Goals as goal

pub returns : goal.returns
returns c = starts_owe
