use Rattle.gd_core_laws.proofs.After.{some_rounds_explained}
use Rattle.gd_core_laws.proofs.some_rounds_are_explained.Goals as goal

pub returns : goal.returns
returns c = some_rounds_explained
