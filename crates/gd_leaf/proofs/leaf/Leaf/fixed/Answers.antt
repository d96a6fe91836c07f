use Rattle.std.proofs.Common.{arith}
use Rattle.gd_iter_core.specs.Rising.{from_all}
use Rattle.gd_leaf.specs.declared.kind.Kind.TheVariants as kind
use Rattle.gd_leaf.specs.Leaf.{leaf_set}
use Rattle.gd_leaf.specs.Rising.{leaf_rises}
use Rattle.gd_leaf.proofs.Distinct.{below_has}
use Rattle.gd_leaf.proofs.leaf.Leaf.fixed.Goals as goal

pub returns-clause-members : goal.returns-clause-members
returns-clause-members c = λ batches few id. below_has c.in_ok-list.list.ids.ids c.args.ids.now _ id c.in_ok-list.ensures few

pub returns-clause-owed : goal.returns-clause-owed
returns-clause-owed c = λ batches. from_all 0 0 (leaf_set (kind.Fixed c.in_ok-list.list) batches) (omega arith) (leaf_rises (kind.Fixed c.in_ok-list.list) batches)
