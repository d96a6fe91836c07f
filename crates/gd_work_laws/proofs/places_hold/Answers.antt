use Rattle.gd_work_laws.proofs.Laws.{places_hold}
use Rattle.gd_work_laws.proofs.places_hold.Goals as goal

pub returns : goal.returns
returns c = places_hold
