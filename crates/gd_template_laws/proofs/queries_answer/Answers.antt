use Rattle.gd_template_laws.proofs.Laws.{queries_answer}
use Rattle.gd_template_laws.proofs.queries_answer.Goals as goal

pub returns : goal.returns
returns c = queries_answer
