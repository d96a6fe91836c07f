use Rattle.gd_follow_laws.specs.World.{Run}
use Rattle.gd_follow.specs.Node.{node_of}
use Rattle.gd_follow.proofs.Moments.{joined}
use Rattle.gd_follow.proofs.Nodes.{gave_of, gave_step}
use Rattle.gd_follow.proofs.node.Node.give.Goals as goal

pub returns-clause-gave : goal.returns-clause-gave
returns-clause-gave g c = gave_of (node_of c.args.self.now) (node_of c.settle.new.self) (node_of c.take.new.self) (record { from = c.args.from; group = c.args.group.now }) c.take.result c.in_ok-settle.ensures.ends c.take.ensures.answered

pub returns-clause-step : goal.returns-clause-step
returns-clause-step g c =
    let run : Run = record { from = c.args.from; group = c.args.group.now } in
    gave_step (node_of c.args.self.now) (node_of c.take.new.self) run c.take.result (gave_of (node_of c.args.self.now) (node_of c.settle.new.self) (node_of c.take.new.self) run c.take.result c.in_ok-settle.ensures.ends c.take.ensures.answered)

pub returns-clause-moments : goal.returns-clause-moments
returns-clause-moments g c holds =
    let (list, settled, is) = c.in_ok-settle.ensures.ends in
    joined c.args.self.now.log.disk c.settle.new.self.log.disk c.take.new.self.log.disk (node_of c.args.self.now) (node_of c.settle.new.self) (node_of c.take.new.self) list settled is (c.settle.ensures.moments holds) (c.take.ensures.moments (c.settle.ensures.holds holds))
