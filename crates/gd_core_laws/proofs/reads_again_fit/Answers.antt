use Rattle.gd_core_laws.proofs.Laws.{reads_again_fit}
use Rattle.gd_core_laws.proofs.reads_again_fit.Goals as goal

pub returns : goal.returns
returns c = reads_again_fit
