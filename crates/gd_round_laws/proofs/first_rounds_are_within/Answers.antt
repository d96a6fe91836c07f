use Rattle.gd_round_laws.proofs.Rounds.{first_rounds_are_within}
use Rattle.gd_round_laws.proofs.first_rounds_are_within.Goals as goal

pub returns : goal.returns
returns c = first_rounds_are_within
