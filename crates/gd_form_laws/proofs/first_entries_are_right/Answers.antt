use Rattle.gd_form_laws.proofs.Entries.{first-entry_given}
use Rattle.gd_form_laws.proofs.first_entries_are_right.Goals as goal

pub returns : goal.returns
returns c = first-entry_given
