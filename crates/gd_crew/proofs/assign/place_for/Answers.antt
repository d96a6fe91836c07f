use Rattle.std.proofs.Common.{inr, refl}
use Rattle.gd_crew.proofs.assign.place_for.Goals as goal

pub returns-clause-hired : goal.returns-clause-hired
returns-clause-hired c = inr (_, c.in_ok-push.ensures.items, refl, c.new.ensures.items)
