use Rattle.gd_cache.proofs.Keys.{keys_tell}
use Rattle.gd_cache.proofs.laws.keys_tell.Goals as goal

pub returns : goal.returns
returns c = keys_tell
