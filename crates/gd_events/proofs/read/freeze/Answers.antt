use Rattle.gd_json.specs.View.{view}
use Rattle.gd_events.proofs.Named.{freeze_nobody, freeze_made}
use Rattle.gd_events.proofs.read.freeze.Goals as goal

pub returns-in_err-sid : goal.returns-in_err-sid
returns-in_err-sid c = rw c.from_residual.ensures (freeze_nobody (view c.args.value.now) c.in_err-sid.ensures)

pub returns : goal.returns
returns c = freeze_made (view c.args.value.now) c.in_ok-sid.sid c.in_ok-sid.ensures
