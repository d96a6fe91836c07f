use Rattle.gd_suspended_laws.proofs.Keys.{trees_tell_keys}
use Rattle.gd_suspended_laws.proofs.trees_tell_keys.Goals as goal

pub returns : goal.returns
returns c = trees_tell_keys
