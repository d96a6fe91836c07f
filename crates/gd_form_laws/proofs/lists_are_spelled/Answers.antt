use Rattle.gd_form_laws.proofs.Entries.{list-spelled}
use Rattle.gd_form_laws.proofs.lists_are_spelled.Goals as goal

pub returns : goal.returns
returns c = list-spelled
