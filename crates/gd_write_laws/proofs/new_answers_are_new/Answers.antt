use Rattle.gd_write_laws.proofs.Laws.{new_answers_are_new}
use Rattle.gd_write_laws.proofs.new_answers_are_new.Goals as goal

pub returns : goal.returns
returns c = new_answers_are_new
