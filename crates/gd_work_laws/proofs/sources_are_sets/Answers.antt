use Rattle.gd_work_laws.proofs.Laws.{sources_are_sets}
use Rattle.gd_work_laws.proofs.sources_are_sets.Goals as goal

pub returns : goal.returns
returns c = sources_are_sets
