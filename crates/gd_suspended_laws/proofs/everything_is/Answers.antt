use Rattle.gd_suspended_laws.proofs.Everything.{everything_is}
use Rattle.gd_suspended_laws.proofs.everything_is.Goals as goal

pub returns : goal.returns
returns c = everything_is
