use Rattle.gd_core_laws.proofs.Laws.{locked_writes_keep}
use Rattle.gd_core_laws.proofs.locked_writes_keep.Goals as goal

pub returns : goal.returns
returns c = locked_writes_keep
