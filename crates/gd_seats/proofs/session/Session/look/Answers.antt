use Rattle.gd_mql.specs.Requests.{read_set_view}
use Rattle.gd_seats.proofs.Later.{later_looked}
use Rattle.gd_seats.proofs.session.Session.look.Goals as goal

pub returns-clause-later : goal.returns-clause-later
returns-clause-later c = later_looked c.args.self.now _ (read_set_view c.args.request.now) _ c.replace_with.ensures
