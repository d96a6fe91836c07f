use Rattle.gd_window.proofs.Objects.{objects_told, marks_told, told_behind}
use Rattle.gd_window.proofs.laws.rows_told_are_as_defined.Goals as goal

pub returns-clause-objects : goal.returns-clause-objects
returns-clause-objects c = objects_told

pub returns-clause-marks : goal.returns-clause-marks
returns-clause-marks c = marks_told

pub returns-clause-behind : goal.returns-clause-behind
returns-clause-behind c = told_behind
