use Rattle.gd_form_laws.proofs.Entries.{rest-entries_given}
use Rattle.gd_form_laws.proofs.other_entries_are_right.Goals as goal

pub returns : goal.returns
returns c = rest-entries_given
