use Rattle.gd_form_laws.proofs.Entries.{connect-spelled}
use Rattle.gd_form_laws.proofs.connects_are_spelled.Goals as goal

pub returns : goal.returns
returns c = connect-spelled
