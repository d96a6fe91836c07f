use Rattle.gd_json.specs.View.{view}
use Rattle.gd_events.proofs.Named.{learn_nobody, learn_made}
use Rattle.gd_events.proofs.read.learn.Goals as goal

pub returns-in_err-sid : goal.returns-in_err-sid
returns-in_err-sid c = rw c.from_residual.ensures (learn_nobody (view c.args.value.now) c.in_err-sid.ensures)

pub returns : goal.returns
returns c = learn_made (view c.args.value.now) c.in_ok-sid.sid c.in_ok-dateline.dateline c.in_ok-sid.ensures c.in_ok-dateline.ensures.number
