use Rattle.gd_form_laws.proofs.Entries.{nested-spelled}
use Rattle.gd_form_laws.proofs.nested_are_spelled.Goals as goal

pub returns : goal.returns
returns c = nested-spelled
