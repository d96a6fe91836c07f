use Rattle.gd_core_laws.proofs.Threads.{rounds_explained}
use Rattle.gd_core_laws.proofs.rounds_are_explained.Goals as goal

pub returns : goal.returns
returns c = rounds_explained
