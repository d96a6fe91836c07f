use Rattle.gd_work_laws.proofs.Laws.{trees_are_below}
use Rattle.gd_work_laws.proofs.trees_are_below.Goals as goal

pub returns : goal.returns
returns c = trees_are_below
