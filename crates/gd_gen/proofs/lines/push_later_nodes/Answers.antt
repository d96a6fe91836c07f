use Rattle.gd_gen.proofs.LineSteps.{with_node, all_nodes}
use Rattle.gd_gen.proofs.lines.push_later_nodes.Goals as goal

pub loop-node-preserved : goal.loop-node-preserved
loop-node-preserved c = with_node _ _ _ _ _ _ _ c.loop-node-test.true c.in_ok-push_later_node.ensures.line c.in_ok-push_later_node.ensures.later c.loop-node.invariant

pub returns : goal.returns
returns c = all_nodes _ _ _ _ _ c.loop-node-test.false c.loop-node.invariant
