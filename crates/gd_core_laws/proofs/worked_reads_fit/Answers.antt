use Rattle.gd_core_laws.proofs.Laws.{worked_reads_fit}
use Rattle.gd_core_laws.proofs.worked_reads_fit.Goals as goal

pub returns : goal.returns
returns c = worked_reads_fit
