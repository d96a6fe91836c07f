use Rattle.gd_mql.specs.Requests.{read_set_view}
use Rattle.gd_seats.proofs.Later.{later_begun}
use Rattle.gd_seats.proofs.session.Session.begin_at.Goals as goal

pub returns-clause-later : goal.returns-clause-later
returns-clause-later g c = later_begun _ c.args.self.now _ (read_set_view c.args.request) _ c.replace_with-taken.ensures.0
