use Rattle.gd_write_laws.proofs.Laws.{batches_are_typed}
use Rattle.gd_write_laws.proofs.batches_are_typed.Goals as goal

pub returns : goal.returns
returns c = batches_are_typed
