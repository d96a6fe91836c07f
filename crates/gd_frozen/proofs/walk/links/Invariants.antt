use Rattle.std.proofs.Common.{◌≡◌, ◌-◌, map}
use Rattle.gd_bytes.specs.FrozenRead.{some_at}
use Rattle.gd_grammar.specs.Grammar.{more_at, number_at}
use Rattle.gd_prim.specs.Limits.{max_prims}
use Rattle.gd_grammar.specs.Choice.{with_front}
use Rattle.gd_frozen.proofs.walk.links.Given as goal

abbrev pub invariant-loop-place : goal.invariant-loop-place
invariant-loop-place l = with_front (l.links.items) (more_at (15 - l._place) 44 (number_at max_prims) l.rest) ≡ some_at 15 44 (number_at max_prims) l.bytes
