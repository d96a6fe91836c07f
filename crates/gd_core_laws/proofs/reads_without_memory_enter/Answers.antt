use Rattle.gd_core_laws.proofs.Laws.{reads_without_memory_enter}
use Rattle.gd_core_laws.proofs.reads_without_memory_enter.Goals as goal

pub returns : goal.returns
returns c = reads_without_memory_enter
