use Rattle.gd_form_laws.proofs.Entries.{create-spelled}
use Rattle.gd_form_laws.proofs.roots_create.Goals as goal

pub returns : goal.returns
returns c = create-spelled
