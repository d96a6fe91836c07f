use Rattle.gd_runs.specs.Explained.{lines_of}
use Rattle.gd_runs.specs.Core.{opened}
use Rattle.gd_replay_laws.proofs.Whole.{replies_are}
use Rattle.gd_replay_laws.proofs.runs_are_replays.Goals as goal

pub returns : goal.returns
returns c = λ told members may loaded input output t reopens run. replies_are told members may (opened loaded) 0 (lines_of input) output t reopens run
