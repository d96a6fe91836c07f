use Rattle.gd_form_laws.proofs.Entries.{item-part}
use Rattle.gd_form_laws.proofs.items_lead.Goals as goal

pub returns : goal.returns
returns c = item-part
