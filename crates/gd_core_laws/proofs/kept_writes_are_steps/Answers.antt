use Rattle.gd_core_laws.proofs.Laws.{kept_writes_are_steps}
use Rattle.gd_core_laws.proofs.kept_writes_are_steps.Goals as goal

pub returns : goal.returns
returns c = kept_writes_are_steps
