use Rattle.gd_form_laws.proofs.Entries.{identity-spelled}
use Rattle.gd_form_laws.proofs.identities_are_spelled.Goals as goal

pub returns : goal.returns
returns c = identity-spelled
