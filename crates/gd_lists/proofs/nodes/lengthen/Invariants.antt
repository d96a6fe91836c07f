use Rattle.std.proofs.Common.{◌≡◌, ℕ, length}
use Rattle.gd_lists.specs.Table.{number_at}
use Rattle.gd_lists.proofs.nodes.lengthen.Given as goal

abbrev pub invariant-loop-node : goal.invariant-loop-node
invariant-loop-node l = record {
  there : length l.numbers.items ≡ l._node;
  same : (n : ℕ) → number_at l.numbers.items n ≡ number_at l.initial.numbers.items n;
}
