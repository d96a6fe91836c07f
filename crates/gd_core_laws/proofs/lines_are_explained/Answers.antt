use Rattle.gd_core_laws.proofs.Whole.{served_explained}
use Rattle.gd_core_laws.proofs.lines_are_explained.Goals as goal

pub returns : goal.returns
returns c = served_explained
