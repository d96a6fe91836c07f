use Rattle.gd_replay_laws.proofs.Joined.{paced_join}
use Rattle.gd_replay_laws.proofs.paced_runs_follow.Goals as goal

pub returns : goal.returns
returns c = paced_join
