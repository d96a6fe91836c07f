use Rattle.gd_left_laws.proofs.Laws.{pages_are_light}
use Rattle.gd_left_laws.proofs.pages_are_light.Goals as goal

pub returns : goal.returns
returns c = pages_are_light
