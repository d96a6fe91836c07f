use Rattle.gd_write_laws.proofs.Laws.{answers_stand_above}
use Rattle.gd_write_laws.proofs.answers_stand_above.Goals as goal

pub returns : goal.returns
returns c = answers_stand_above
