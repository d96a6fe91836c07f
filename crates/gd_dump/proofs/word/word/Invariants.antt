use Rattle.std.proofs.Common.{◌≡◌, drop}
use Rattle.gd_grammar.specs.Grammar.{text_at}
use Rattle.gd_dump.proofs.word.word.Given as goal

abbrev pub invariant-loop-next : goal.invariant-loop-next
invariant-loop-next l = text_at (drop l.next-index l.expected) l.rest ≡ text_at l.expected l.bytes
