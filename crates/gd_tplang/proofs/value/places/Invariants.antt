use Rattle.std.proofs.Common.{◌≡◌, ◌-◌}
use Rattle.gd_grammar.specs.Grammar.{number_at, more_at}
use Rattle.gd_prim.specs.Limits.{max_prims}
use Rattle.gd_grammar.specs.Choice.{with_front, list_at}
use Rattle.gd_tplang.proofs.value.places.Given as goal

abbrev pub invariant-loop-part : goal.invariant-loop-part
invariant-loop-part l = with_front l.places.items (more_at (63 - l._part) 124 (number_at max_prims) l.rest) ≡ list_at 63 124 (number_at max_prims) l.bytes
