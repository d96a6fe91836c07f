use Rattle.gd_match_laws.proofs.Laws.{walks_tell}
use Rattle.gd_match_laws.proofs.walks_tell.Goals as goal

pub returns : goal.returns
returns c = walks_tell
