use Rattle.gd_paging_laws.proofs.Laws.{pages_are_whole}
use Rattle.gd_paging_laws.proofs.pages_are_whole.Goals as goal

pub returns : goal.returns
returns c = pages_are_whole
