use Rattle.std.proofs.Common.{◌≡◌, ◌++◌}
use Rattle.gd_lists.proofs.texts.copies.Given as goal

abbrev pub invariant-loop-text : goal.invariant-loop-text
invariant-loop-text l = l.made.entries ++ l.text-iterator ≡ l.lists.entries
