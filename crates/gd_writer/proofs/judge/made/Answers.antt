use Rattle.gd_runs.specs.Legal.{batches}
use Rattle.gd_mql.specs.Requests.{write_view}
use Rattle.gd_writer.proofs.Judged.{may_be_written}
use Rattle.gd_writer.proofs.judge.made.Goals as goal

pub returns-clause-may : goal.returns-clause-may
returns-clause-may g c =
    may_be_written c.store.result.now (batches c.args.ledger.now.history) (write_view c.args.request.now) c.args.moment c.evaluate.result c.store.ensures c.requires
    c.evaluate.ensures.exec c.evaluate.ensures.well_formed c.evaluate.ensures.fits
