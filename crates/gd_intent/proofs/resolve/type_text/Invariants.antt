use Rattle.std.proofs.Common.{◌≡◌}
use Rattle.gd_defs.specs.Write.Parts.{type_text}
use Rattle.gd_form_laws.specs.SpelledChange.{entries_len}
use Rattle.gd_mql.specs.Entries.{entries_left}
use Rattle.gd_intent.proofs.resolve.type_text.Given as goal

abbrev pub invariant-loop-entry : goal.invariant-loop-entry
invariant-loop-entry l = type_text (entries_left l.members) ≡ type_text (entries_left l.rest)

abbrev pub decreases-loop-entry : goal.decreases-loop-entry
decreases-loop-entry l = entries_len (entries_left l.rest)
