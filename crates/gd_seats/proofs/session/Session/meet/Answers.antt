use Rattle.gd_seats.proofs.Later.{later_met}
use Rattle.gd_seats.proofs.session.Session.meet.Goals as goal

pub returns-clause-later : goal.returns-clause-later
returns-clause-later c = later_met c.args.self.now _ _ c.replace_with.ensures
