use Rattle.gd_replay_laws.proofs.Faults.{faults_run}
use Rattle.gd_replay_laws.proofs.faults_add_up.Goals as goal

pub returns : goal.returns
returns c = faults_run
