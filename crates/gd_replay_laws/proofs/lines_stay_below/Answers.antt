use Rattle.gd_replay_laws.proofs.Below.{line_below}
use Rattle.gd_replay_laws.proofs.lines_stay_below.Goals as goal

pub returns : goal.returns
returns c = line_below
