use Rattle.gd_or.proofs.Steps.{new_walks, new_owes}
use Rattle.gd_or.proofs.or.owes_what_some_have.Goals as goal

pub returns-clause-set : goal.returns-clause-set
returns-clause-set g c = λ id. new_walks g.I.Iter.walk (λ b. b.iter) c.args.world.now c.args.or.now.branches.items c.args.members.now id c.requires.members

pub returns-clause-owed : goal.returns-clause-owed
returns-clause-owed g c =
    new_owes g.I.Iter.walk g.I.Iter.owed (λ b. b.iter) (λ b. b.head) c.args.world.now c.args.or.now.branches.items c.args.members.now c.args.or.now.place
    (λ m. g.met.I.Iter.set_rises m c.args.world.now) c.requires.members c.requires.heads c.requires.place c.requires.fresh
