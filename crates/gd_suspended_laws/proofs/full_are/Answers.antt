use Rattle.gd_suspended_laws.proofs.Full.{full_are}
use Rattle.gd_suspended_laws.proofs.full_are.Goals as goal

pub returns : goal.returns
returns c = full_are
