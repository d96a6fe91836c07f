use Rattle.gd_write_laws.proofs.Laws.{plain_is_typed}
use Rattle.gd_write_laws.proofs.plain_is_typed.Goals as goal

pub returns : goal.returns
returns c = plain_is_typed
