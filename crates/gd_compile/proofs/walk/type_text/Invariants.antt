use Rattle.std.proofs.Common.{◌≡◌}
use Rattle.gd_defs.specs.Asked as defs
use Rattle.gd_mql.specs.Clauses.{left}
use Rattle.gd_compile.specs.Walk.{parts_count}
use Rattle.gd_compile.proofs.walk.type_text.Given as goal

abbrev pub invariant-loop-part : goal.invariant-loop-part
invariant-loop-part l = defs.type_text (left l.members) ≡ defs.type_text (left l.rest)

abbrev pub decreases-loop-part : goal.decreases-loop-part
decreases-loop-part l = parts_count (left l.rest)
