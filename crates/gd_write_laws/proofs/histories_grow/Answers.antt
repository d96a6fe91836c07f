use Rattle.gd_write_laws.proofs.Laws.{histories_grow}
use Rattle.gd_write_laws.proofs.histories_grow.Goals as goal

pub returns : goal.returns
returns c = histories_grow
