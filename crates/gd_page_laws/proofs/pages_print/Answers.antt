use Rattle.gd_page_laws.proofs.Laws.{pages_print}
use Rattle.gd_page_laws.proofs.pages_print.Goals as goal

pub returns : goal.returns
returns c = pages_print
