use Rattle.gd_form_laws.proofs.Entries.{create-led}
use Rattle.gd_form_laws.proofs.creates_lead.Goals as goal

pub returns : goal.returns
returns c = create-led
