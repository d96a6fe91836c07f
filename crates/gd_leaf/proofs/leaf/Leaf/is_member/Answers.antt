use Rattle.std.proofs.Common.{◌∙◌}
use Rattle.gd_leaf.specs.Leaf.{leaf_set}
use Rattle.gd_leaf.specs.Rising.{leaf_rises}
use Rattle.gd_leaf.proofs.Firsts.{found_here, found_none}
use Rattle.gd_leaf.proofs.leaf.Leaf.is_member.Goals as goal

pub returns-in-Some-clause-has : goal.returns-in-Some-clause-has
returns-in-Some-clause-has g c =
    c.eq.ensures ∙ found_here c.args.id c.in-Some.found (leaf_set c.args.self.now.kind c.args.view.now) (leaf_rises c.args.self.now.kind c.args.view.now) c.in-Some.ensures.first

pub returns-in-None-clause-has : goal.returns-in-None-clause-has
returns-in-None-clause-has g c =
    found_none c.args.id (leaf_set c.args.self.now.kind c.args.view.now) (leaf_rises c.args.self.now.kind c.args.view.now) c.in-None.ensures.first
