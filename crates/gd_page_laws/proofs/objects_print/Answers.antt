use Rattle.gd_page_laws.proofs.Laws.{objects_print}
use Rattle.gd_page_laws.proofs.objects_print.Goals as goal

pub returns : goal.returns
returns c = objects_print
