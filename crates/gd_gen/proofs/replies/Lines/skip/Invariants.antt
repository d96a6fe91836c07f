use Rattle.std.proofs.Common.{◌≡◌, ◌-◌, drop}
use Rattle.gd_gen.proofs.replies.Lines.skip.Given as goal

-- the lines behind those that are still to be passed are the ones that are wanted
abbrev pub invariant-loop-place : goal.invariant-loop-place
invariant-loop-place l = drop (l.count - l._place) l.self ≡ drop l.count l.initial.self
