use Rattle.gd_match_laws.proofs.Under.{last_moves}
use Rattle.gd_match_laws.proofs.last_moves.Goals as goal

pub returns : goal.returns
returns c = last_moves
