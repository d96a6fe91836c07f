use Rattle.gd_template_laws.proofs.Laws.{templates_mean}
use Rattle.gd_template_laws.proofs.templates_mean.Goals as goal

pub returns : goal.returns
returns c = templates_mean
