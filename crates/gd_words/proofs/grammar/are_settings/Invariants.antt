use Rattle.std.proofs.Common.{◌≡◌, map, false, drop}
use Rattle.gd_words.specs.Spelling.{spells}
use Rattle.gd_words.proofs.grammar.are_settings.Given as goal

-- what is left decides
abbrev pub invariant-loop-word : goal.invariant-loop-word
invariant-loop-word l = spells (map (λ n. n.now) l.names) l.due (map (λ w. w.now) (drop l.word-index l.words)) ≡ spells (map (λ n. n.now) l.names) false (map (λ w. w.now) l.words)
