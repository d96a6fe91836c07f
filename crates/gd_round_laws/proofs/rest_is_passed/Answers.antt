use Rattle.gd_round_laws.proofs.Rounds.{rest_is_passed}
use Rattle.gd_round_laws.proofs.rest_is_passed.Goals as goal

pub returns : goal.returns
returns c = rest_is_passed
