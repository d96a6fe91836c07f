use Rattle.gd_paging_laws.proofs.Laws.{shown_pages_are_whole}
use Rattle.gd_paging_laws.proofs.shown_pages_are_whole.Goals as goal

pub returns : goal.returns
returns c = shown_pages_are_whole
