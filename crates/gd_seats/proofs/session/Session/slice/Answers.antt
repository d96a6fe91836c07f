use Rattle.gd_seats.proofs.Later.{later_sliced}
use Rattle.gd_seats.proofs.session.Session.slice.Goals as goal

pub returns-clause-later : goal.returns-clause-later
returns-clause-later g c = later_sliced c.args.self.now _ c.args.line _ c.replace_with-taken.ensures.0
