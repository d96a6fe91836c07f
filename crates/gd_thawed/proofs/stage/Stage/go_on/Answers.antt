use Rattle.std.proofs.Common.{◌+◌, subst, arith}
use Rattle.gd_thawed.specs.Stages.{StageOwes}
use Rattle.gd_thawed.proofs.Going.{stage_goes}
use Rattle.gd_thawed.proofs.stage.Stage.go_on.Goals as goal

pub returns-in-Scanning : goal.returns-in-Scanning
returns-in-Scanning g c = λ owed owes.
    stage_goes (c.args.budget + 1024) (omega arith) (c.go_on.ensures owed (subst (λ st. StageOwes c.args.view.now owed c.args.subject.now st c.args.window.now) c.in-Scanning.is owes))

pub returns-in-Building : goal.returns-in-Building
returns-in-Building g c = λ owed owes.
    stage_goes (c.args.budget + 1024) (omega arith) (c.go_on-in-Building.ensures owed (subst (λ st. StageOwes c.args.view.now owed c.args.subject.now st c.args.window.now) c.in-Building.is owes))

pub returns-in-Printing : goal.returns-in-Printing
returns-in-Printing g c = λ owed owes.
    stage_goes (c.args.budget + 1024) (omega arith) (c.go_on-in-Printing.ensures owed (subst (λ st. StageOwes c.args.view.now owed c.args.subject.now st c.args.window.now) c.in-Printing.is owes))
