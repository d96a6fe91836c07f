use Rattle.gd_write_laws.proofs.Laws.{histories_are_sound}
use Rattle.gd_write_laws.proofs.histories_are_sound.Goals as goal

pub returns : goal.returns
returns c = histories_are_sound
