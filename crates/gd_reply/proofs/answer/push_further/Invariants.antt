use Rattle.std.proofs.Common.{◌≡◌, ◌++◌, map, drop}
use Rattle.gd_reply.specs.Answers.{further}
use Rattle.gd_reply.proofs.answer.push_further.Given as goal

abbrev pub invariant-loop-text : goal.invariant-loop-text
invariant-loop-text l = l.bytes.items ++ further (map (λ t. t.now) (drop l.text-index l.texts)) ≡ l.initial.bytes.items ++ further (map (λ t. t.now) l.texts)
