use Rattle.gd_write_laws.proofs.Laws.{objects_stay}
use Rattle.gd_write_laws.proofs.objects_stay.Goals as goal

pub returns : goal.returns
returns c = objects_stay
