use Rattle.std.proofs.Common.{◌∙◌, ◌+◌, ◌∷◌, ap, sym}
use Rattle.gd_iter_core.specs.Owed.{ids_from}
use Rattle.gd_leaf.specs.Leaf.{leaf_set}
use Rattle.gd_leaf.specs.Rising.{leaf_rises}
use Rattle.gd_leaf.proofs.Firsts.{first_is, none_is}
use Rattle.gd_leaf.proofs.leaf.Leaf.go_on.Goals as goal

pub returns-in-Some-clause-gives : goal.returns-in-Some-clause-gives
returns-in-Some-clause-gives g c =
    let first = first_is c.args.self.now.place 0 c.in-Some.id (leaf_set c.args.self.now.kind c.args.view.now) (leaf_rises c.args.self.now.kind c.args.view.now) c.in-Some.ensures.first in
    first.1 ∙ ap (λ n. c.in-Some.id ∷ ids_from (n + 1) (leaf_set c.args.self.now.kind c.args.view.now)) (sym c.place.ensures)

pub returns-in-None-clause-gives : goal.returns-in-None-clause-gives
returns-in-None-clause-gives g c =
    let none = none_is c.args.self.now.place (leaf_set c.args.self.now.kind c.args.view.now) c.in-None.ensures.first in
    (none, none)
