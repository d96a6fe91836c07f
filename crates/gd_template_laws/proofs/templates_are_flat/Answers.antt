use Rattle.gd_template_laws.proofs.Laws.{templates_are_flat}
use Rattle.gd_template_laws.proofs.templates_are_flat.Goals as goal

pub returns : goal.returns
returns c = templates_are_flat
