use Rattle.gd_window.proofs.Defined.{row_same}
use Rattle.gd_window.proofs.laws.rows_are_as_defined.Goals as goal

pub returns : goal.returns
returns c = row_same
