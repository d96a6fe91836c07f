use Rattle.gd_window.proofs.Objects.{objects_give}
use Rattle.gd_window.proofs.laws.objects_give_pages.Goals as goal

pub returns : goal.returns
returns c = objects_give
