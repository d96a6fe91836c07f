use Rattle.gd_core_laws.proofs.After.{files_hold}
use Rattle.gd_core_laws.proofs.files_hold.Goals as goal

pub returns : goal.returns
returns c = files_hold
