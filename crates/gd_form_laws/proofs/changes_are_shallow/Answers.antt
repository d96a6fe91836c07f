use Rattle.gd_form_laws.proofs.ChangeNesting.{change-depth}
use Rattle.gd_form_laws.proofs.changes_are_shallow.Goals as goal

pub returns : goal.returns
returns c = change-depth
