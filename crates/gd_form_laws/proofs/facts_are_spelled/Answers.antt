use Rattle.gd_form_laws.proofs.Entries.{fact-spelled}
use Rattle.gd_form_laws.proofs.facts_are_spelled.Goals as goal

pub returns : goal.returns
returns c = fact-spelled
