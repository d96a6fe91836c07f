use Rattle.std.proofs.Common.{◌≡◌, ◌≤◌, length}
use Rattle.gd_grammar.specs.Grammar.{digits_at}
use Rattle.gd_dump.proofs.number.digits.Given as goal

abbrev pub invariant-loop-rest : goal.invariant-loop-rest
invariant-loop-rest l = record {
  within : l.n ≤ l.bound;
  left : digits_at l.bound l.n l.rest ≡ digits_at l.bound l.first l.bytes;
}

abbrev pub decreases-loop-rest : goal.decreases-loop-rest
decreases-loop-rest l = length l.rest
