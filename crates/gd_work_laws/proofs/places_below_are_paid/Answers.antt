use Rattle.gd_work_laws.proofs.Laws.{places_below_are_paid}
use Rattle.gd_work_laws.proofs.places_below_are_paid.Goals as goal

pub returns : goal.returns
returns c = places_below_are_paid
