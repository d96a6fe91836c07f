use Rattle.gd_gen.proofs.LineSteps.{whole_nodes}
use Rattle.gd_gen.proofs.lines.push_nodes.Goals as goal

pub returns : goal.returns
returns c = whole_nodes _ _ _ _ _ _ _ c.requires.some c.new-draws.ensures c.in_ok-push_first_node.ensures.line c.in_ok-push_first_node.ensures.later c.in_ok-push_later_nodes.ensures
