use Rattle.gd_left_laws.proofs.Laws.{pages_are_built}
use Rattle.gd_left_laws.proofs.pages_are_built.Goals as goal

pub returns : goal.returns
returns c = pages_are_built
