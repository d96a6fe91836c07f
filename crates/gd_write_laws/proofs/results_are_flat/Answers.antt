use Rattle.gd_write_laws.proofs.Laws.{results_are_flat}
use Rattle.gd_write_laws.proofs.results_are_flat.Goals as goal

pub returns : goal.returns
returns c = results_are_flat
