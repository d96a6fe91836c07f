use Rattle.gd_work_laws.proofs.Laws.{chosen_are_smallest}
use Rattle.gd_work_laws.proofs.chosen_are_smallest.Goals as goal

pub returns : goal.returns
returns c = chosen_are_smallest
