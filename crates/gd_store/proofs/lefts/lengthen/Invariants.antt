use Rattle.std.proofs.Common.{◌≡◌, ℕ, length}
use Rattle.gd_store.specs.Lefts.{front_of}
use Rattle.gd_store.proofs.lefts.lengthen.Given as goal

abbrev pub invariant-loop-number : goal.invariant-loop-number
invariant-loop-number l = record {
  there : length l.numbers.items ≡ l._number;
  same : (n : ℕ) → front_of l.numbers.items n ≡ front_of l.initial.numbers.items n;
}
