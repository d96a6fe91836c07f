use Rattle.std.proofs.Common.{◌≡◌, ◌≤◌, map, take, length}
use Rattle.std.specs.Prelude.{All}
use Rattle.gd_words.proofs.reader.strings.Given as goal

-- so far they are the same, and short
abbrev pub invariant-loop-word : goal.invariant-loop-word
invariant-loop-word l = (map (λ w. w.now) l.strings.items ≡ take l.word-index l.words) × All (λ w. length w.now ≤ 4096) l.strings.items
