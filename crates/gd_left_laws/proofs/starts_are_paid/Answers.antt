use Rattle.gd_left_laws.proofs.Laws.{starts_are_paid}
use Rattle.gd_left_laws.proofs.starts_are_paid.Goals as goal

pub returns : goal.returns
returns c = starts_are_paid
