use Rattle.gd_json.specs.View.{view}
use Rattle.gd_events.proofs.Named.{thaw_wordless}
use Rattle.gd_events.proofs.read.thaw_by.Goals as goal

pub returns-in-None : goal.returns-in-None
returns-in-None c = λ _. thaw_wordless (view c.args.value) c.args.sid c.requires.sid c.in-None.ensures
