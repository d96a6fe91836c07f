use Rattle.std.proofs.Common.{◌≡◌, ◌-◌}
use Rattle.gd_grammar.specs.Grammar.{more_at}
use Rattle.gd_tplang.specs.Written.{value_at}
use Rattle.gd_grammar.specs.Choice.{with_front, list_at}
use Rattle.gd_tplang.proofs.value.values.Given as goal

abbrev pub invariant-loop-part : goal.invariant-loop-part
invariant-loop-part l = with_front l.values.items (more_at (63 - l._part) 124 (value_at) l.rest) ≡ list_at 63 124 (value_at) l.bytes
