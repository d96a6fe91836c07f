use Rattle.gd_suspended_laws.proofs.Gathered.{rows_are_light}
use Rattle.gd_suspended_laws.proofs.rows_are_light.Goals as goal

pub returns : goal.returns
returns c = rows_are_light
