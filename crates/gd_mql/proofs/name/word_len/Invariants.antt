use Rattle.std.proofs.Common.{◌≡◌, ◌+◌, drop, length}
use Rattle.gd_defs.specs.Query.Names.{word_front}
use Rattle.gd_mql.proofs.name.word_len.Given as goal

abbrev pub invariant-loop-i : goal.invariant-loop-i
invariant-loop-i l = length (word_front l.bytes) ≡ l.i + length (word_front (drop l.i l.bytes))
