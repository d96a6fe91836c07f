use Rattle.gd_runs.specs.Legal.{batches}
use Rattle.gd_sessions.proofs.Opened.{opens_as}
use Rattle.gd_sessions.proofs.Paced.{none_within}
use Rattle.gd_sessions.proofs.running.Running.open.Goals as goal

pub returns-in-Ok-clause-opened : goal.returns-in-Ok-clause-opened
returns-in-Ok-clause-opened g c =
    opens_as (g.D.Disk.content c.args.disk) (g.C.Clock.may c.args.clock) g.C.Clock.may c.in-Ok.side c.args.held.items (rw c.in-Ok.side-is at c.in-Ok.ensures.begins) c.requires.new

pub returns-in-Ok-clause-left : goal.returns-in-Ok-clause-left
returns-in-Ok-clause-left g c = none_within (batches c.in-Ok.side.history) c.args.held.items c.requires.new
