use Rattle.gd_core_laws.proofs.Prefix.{rounds_front_explained}
use Rattle.gd_core_laws.proofs.round_fronts_are_explained.Goals as goal

pub returns : goal.returns
returns c = rounds_front_explained
