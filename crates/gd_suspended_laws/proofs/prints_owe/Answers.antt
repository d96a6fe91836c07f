use Rattle.gd_suspended_laws.proofs.Laws.{prints_are_owed}
use Rattle.gd_suspended_laws.proofs.prints_owe.Goals as goal

pub returns : goal.returns
returns c = prints_are_owed
