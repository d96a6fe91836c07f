use Rattle.gd_core_laws.proofs.LockRun.{joined_keeps}
use Rattle.gd_core_laws.proofs.locks_keep.Goals as goal

pub returns : goal.returns
returns c = joined_keeps
