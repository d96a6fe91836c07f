use Rattle.gd_held.proofs.Holding.{still_unfinished}
use Rattle.gd_held.proofs.held.HeldReading.slice.Goals as goal

pub returns-in-Begun-clause-still : goal.returns-in-Begun-clause-still
returns-in-Begun-clause-still g c = λ shown holds. c.slice.ensures.still shown (rw c.in-Begun.is at holds)

pub returns-in-Ok-Unfinished-clause-still : goal.returns-in-Ok-Unfinished-clause-still
returns-in-Ok-Unfinished-clause-still g c = λ shown holds.
    still_unfinished c.slice-progress.result c.in-Ok-Unfinished.field-0 c.in-Ok-Unfinished.is c.in-Ok-Unfinished.field-0-is c.slice-progress.ensures.still shown (rw c.in-Thawed.is at holds)
