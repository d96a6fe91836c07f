use Rattle.gd_core_laws.proofs.Prefix.{served_front_explained}
use Rattle.gd_core_laws.proofs.fronts_are_explained.Goals as goal

pub returns : goal.returns
returns c = served_front_explained
