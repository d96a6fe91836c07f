use Rattle.gd_template_laws.proofs.Laws.{answers_pass}
use Rattle.gd_template_laws.proofs.answers_pass.Goals as goal

pub returns : goal.returns
returns c = answers_pass
