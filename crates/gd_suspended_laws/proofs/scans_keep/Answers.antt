use Rattle.gd_suspended_laws.proofs.Laws.{scans_keep}
use Rattle.gd_suspended_laws.proofs.scans_keep.Goals as goal

pub returns : goal.returns
returns c = scans_keep
