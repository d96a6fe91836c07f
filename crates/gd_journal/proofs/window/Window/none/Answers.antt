use Rattle.std.proofs.Common.{◌∙◌}
use Rattle.gd_journal.proofs.window.Window.none.Goals as goal

pub returns-clause-shows : goal.returns-clause-shows
returns-clause-shows c = λ content whole file is. (0, c.from.ensures ∙ c.new.ensures.items, whole file is)
