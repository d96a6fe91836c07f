use Rattle.gd_form_laws.proofs.Entries.{existing-spelled}
use Rattle.gd_form_laws.proofs.roots_name.Goals as goal

pub returns : goal.returns
returns c = existing-spelled
