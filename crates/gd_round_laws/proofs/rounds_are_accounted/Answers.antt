use Rattle.gd_round_laws.proofs.Rounds.{rounds_are_accounted}
use Rattle.gd_round_laws.proofs.rounds_are_accounted.Goals as goal

pub returns : goal.returns
returns c = rounds_are_accounted
