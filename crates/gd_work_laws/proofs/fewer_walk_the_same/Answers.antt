use Rattle.gd_work_laws.proofs.Laws.{fewer_walk_the_same}
use Rattle.gd_work_laws.proofs.fewer_walk_the_same.Goals as goal

pub returns : goal.returns
returns c = fewer_walk_the_same
