use Rattle.gd_mql.specs.Requests.{read_set_view}
use Rattle.gd_following.proofs.Answered.{read_counted}
use Rattle.gd_following.proofs.answering.answer_asked.Goals as goal

pub returns-in-Read-clause-counted : goal.returns-in-Read-clause-counted
returns-in-Read-clause-counted g c = read_counted c.store.result.now c.args.line (read_set_view c.in-Read.request) _ _ _ c.answer_read.ensures
