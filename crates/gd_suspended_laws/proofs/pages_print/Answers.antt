use Rattle.gd_suspended_laws.proofs.Gathered.{pages_print}
use Rattle.gd_suspended_laws.proofs.pages_print.Goals as goal

pub returns : goal.returns
returns c = pages_print
