use Rattle.gd_window.proofs.Objects.{objects_behind}
use Rattle.gd_window.proofs.laws.rows_behind_are_as_defined.Goals as goal

pub returns : goal.returns
returns c = objects_behind
