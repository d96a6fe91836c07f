use Rattle.gd_replay_laws.proofs.Joined.{runs_join}
use Rattle.gd_replay_laws.proofs.runs_follow.Goals as goal

pub returns : goal.returns
returns c = runs_join
