use Rattle.std.proofs.Common.{arith}
use Rattle.gd_iter_core.specs.Rising.{from_all}
use Rattle.gd_leaf.specs.declared.kind.Kind.TheVariants as kind
use Rattle.gd_leaf.specs.Leaf.{leaf_set}
use Rattle.gd_leaf.specs.Rising.{leaf_rises}
use Rattle.gd_leaf.proofs.leaf.Leaf.value.Goals as goal

pub returns-clause-owed : goal.returns-clause-owed
returns-clause-owed c = λ batches. from_all 0 0 (leaf_set (kind.Value c.args.number) batches) (omega arith) (leaf_rises (kind.Value c.args.number) batches)
