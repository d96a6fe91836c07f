use Rattle.gd_json.specs.View.{view}
use Rattle.gd_events.proofs.Named.{thaw_nobody}
use Rattle.gd_events.proofs.read.thaw.Goals as goal

pub returns-in-None : goal.returns-in-None
returns-in-None c = λ _. thaw_nobody (view c.args.value) c.in-None.ensures
