use Rattle.gd_cache.proofs.Answered.{kept_later}
use Rattle.gd_cache.proofs.laws.kept_later.Goals as goal

pub returns : goal.returns
returns c = kept_later
