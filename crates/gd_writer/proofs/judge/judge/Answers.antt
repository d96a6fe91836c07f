use Rattle.gd_runs.specs.Legal.{batches}
use Rattle.gd_runs.specs.Request.{exec_after}
use Rattle.gd_mql.specs.Requests.{write_view}
use Rattle.gd_writer.proofs.Judged.{done_is}
use Rattle.gd_writer.proofs.judge.judge.Goals as goal

pub judge_done-requires-clause-does : goal.judge_done-requires-clause-does
judge_done-requires-clause-does g c =
    done_is (exec_after (batches c.args.ledger.now.history) (write_view c.args.asked.request.now) c.args.moment) c.made.result (c.in-Ok.batch, c.in-Ok.answer) c.in-Ok.is c.made.ensures.exec
