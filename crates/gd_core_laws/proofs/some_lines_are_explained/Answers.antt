use Rattle.gd_core_laws.proofs.After.{served_rounds_explained}
use Rattle.gd_core_laws.proofs.some_lines_are_explained.Goals as goal

pub returns : goal.returns
returns c = served_rounds_explained
