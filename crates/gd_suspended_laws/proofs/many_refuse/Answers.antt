use Rattle.gd_suspended_laws.proofs.Laws.{many_are_refused}
use Rattle.gd_suspended_laws.proofs.many_refuse.Goals as goal

pub returns : goal.returns
returns c = many_are_refused
