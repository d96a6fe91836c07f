use Rattle.std.proofs.Common.{◌≤◌, length, subst, arith}
use Rattle.gd_leaf.specs.declared.kind.Kind.{Kind}
use Rattle.gd_leaf.specs.declared.kind.Kind.TheVariants as kind
use Rattle.gd_leaf.specs.Leaf.{leaf_set, leaf_bound}
use Rattle.gd_leaf.specs.Rising.{leaf_bounded}
use Rattle.gd_leaf.proofs.leaf.LeafIterView.size.Goals as goal

pub returns-in-Fixed-clause-bound : goal.returns-in-Fixed-clause-bound
returns-in-Fixed-clause-bound c =
    let short : length (leaf_set c.args.self.now.kind c.args.world.now) ≤ leaf_bound (kind.Fixed c.in-Fixed.list) c.args.world.now
    = subst (λ (k : Kind). length (leaf_set c.args.self.now.kind c.args.world.now) ≤ leaf_bound k c.args.world.now) c.in-Fixed.is (leaf_bounded c.args.self.now.kind c.args.world.now) in
    omega (arith, short, c.len.ensures.len)

pub returns-in-All-clause-bound : goal.returns-in-All-clause-bound
returns-in-All-clause-bound c =
    let short : length (leaf_set c.args.self.now.kind c.args.world.now) ≤ leaf_bound kind.All c.args.world.now
    = subst (λ (k : Kind). length (leaf_set c.args.self.now.kind c.args.world.now) ≤ leaf_bound k c.args.world.now) c.in-All.is (leaf_bounded c.args.self.now.kind c.args.world.now) in
    omega (arith, short, c.end.ensures.end, c.place.ensures)

pub returns-in-Linkage-clause-bound : goal.returns-in-Linkage-clause-bound
returns-in-Linkage-clause-bound c =
    let short : length (leaf_set c.args.self.now.kind c.args.world.now) ≤ leaf_bound (kind.Linkage c.in-Linkage.field-0 c.in-Linkage.field-1) c.args.world.now
    = subst (λ (k : Kind). length (leaf_set c.args.self.now.kind c.args.world.now) ≤ leaf_bound k c.args.world.now) c.in-Linkage.is (leaf_bounded c.args.self.now.kind c.args.world.now) in
    omega (arith, short, c.end-in-Linkage.ensures.end, c.place-in-Linkage.ensures)

pub returns-in-Value-clause-bound : goal.returns-in-Value-clause-bound
returns-in-Value-clause-bound c =
    let short : length (leaf_set c.args.self.now.kind c.args.world.now) ≤ leaf_bound (kind.Value c.in-Value.field-0) c.args.world.now
    = subst (λ (k : Kind). length (leaf_set c.args.self.now.kind c.args.world.now) ≤ leaf_bound k c.args.world.now) c.in-Value.is (leaf_bounded c.args.self.now.kind c.args.world.now) in
    omega (arith, short, c.end-in-Value.ensures.end, c.place-in-Value.ensures)
