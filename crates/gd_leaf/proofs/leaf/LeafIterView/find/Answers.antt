use Rattle.std.proofs.Common.{◌≡◌, ◌∙◌, ap}
use Rattle.gd_iter_core.specs.Owed.{ids_from}
use Rattle.gd_iter_core.specs.Positions.{finds}
use Rattle.gd_iter_core.specs.Rising.{from_max}
use Rattle.gd_leaf.specs.declared.kind.Kind.{Kind}
use Rattle.gd_leaf.specs.Leaf.{leaf_set}
use Rattle.gd_leaf.proofs.leaf.LeafIterView.find.Goals as goal

pub returns-clause-gives : goal.returns-clause-gives
returns-clause-gives g c =
    let later : ids_from c.skip.new.self.place (leaf_set c.skip.new.self.kind c.args.world.now) ≡ ids_from c.args.from (ids_from c.args.self.now.place (leaf_set c.args.self.now.kind c.args.world.now))
    = ap (λ (k : Kind). ids_from c.skip.new.self.place (leaf_set k c.args.world.now)) c.skip.ensures.kind
    ∙ (ap (λ n. ids_from n (leaf_set c.args.self.now.kind c.args.world.now)) c.skip.ensures.place ∙ from_max c.args.self.now.place c.args.from (leaf_set c.args.self.now.kind c.args.world.now)) in
    finds c.args.from _ _ _ c.go_on.result later c.go_on.ensures.gives
