use Rattle.gd_round_laws.proofs.Rounds.{rounds_begin}
use Rattle.gd_round_laws.proofs.rounds_begin.Goals as goal

pub returns : goal.returns
returns c = rounds_begin
