use Rattle.gd_runs.specs.Explained.{lines_of}
use Rattle.gd_runs.specs.Core.{opened}
use Rattle.gd_replay_laws.proofs.Whole.{paced_are}
use Rattle.gd_replay_laws.proofs.paced_runs_are_replays.Goals as goal

pub returns : goal.returns
returns c = λ told members d may loaded input output t z reopens run. paced_are told members d may (opened loaded) (λ i. 0) 0 (lines_of input) output t z reopens run
