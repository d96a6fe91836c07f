use Rattle.gd_form_laws.proofs.Entries.{named-part}
use Rattle.gd_form_laws.proofs.names_lead.Goals as goal

pub returns : goal.returns
returns c = named-part
