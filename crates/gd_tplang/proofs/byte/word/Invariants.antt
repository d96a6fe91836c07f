use Rattle.std.proofs.Common.{◌≡◌, drop}
use Rattle.gd_grammar.specs.Grammar.{text_at}
use Rattle.gd_tplang.proofs.byte.word.Given as goal

abbrev pub invariant-loop-expected : goal.invariant-loop-expected
invariant-loop-expected l = text_at (drop l.expected-index l.expected) l.rest ≡ text_at l.fn.expected l.bytes
