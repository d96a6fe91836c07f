use Rattle.gd_replay_laws.proofs.Faults.{line_quiet}
use Rattle.gd_replay_laws.proofs.only_writes_tell_faults.Goals as goal

pub returns : goal.returns
returns c = λ told members may s t k bytes reply. line_quiet k told members may s t bytes reply
