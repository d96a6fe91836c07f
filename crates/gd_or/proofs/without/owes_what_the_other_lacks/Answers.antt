use Rattle.gd_or.proofs.Differences.{new_walks, new_owes}
use Rattle.gd_or.proofs.without.owes_what_the_other_lacks.Goals as goal

pub returns-clause-set : goal.returns-clause-set
returns-clause-set g c =
    new_walks g.I.Iter.walk g.J.Iter.walk c.args.world.now c.args.from.now c.args.without.now.from c.args.less.now c.args.without.now.less c.requires.from c.requires.less

pub returns-clause-owed : goal.returns-clause-owed
returns-clause-owed g c =
    new_owes g.I.Iter.walk g.J.Iter.walk g.I.Iter.owed c.args.world.now c.args.from.now c.args.without.now.from c.args.without.now.less c.args.without.now.place c.args.without.now.produced
    c.requires.from c.requires.place c.requires.produced c.requires.fresh (g.met.I.Iter.set_rises _ _)
