use Rattle.gd_write_laws.proofs.Laws.{writes_follow}
use Rattle.gd_write_laws.proofs.writes_follow.Goals as goal

pub returns : goal.returns
returns c = writes_follow
