use Rattle.gd_lists.proofs.nodes.NodeLists.enter.Goals as goal

pub push-requires-clause-above : goal.push-requires-clause-above
push-requires-clause-above c = c.requires.above c.in-Some.node c.in-Some.is
