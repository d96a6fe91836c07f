use Rattle.gd_match_laws.proofs.Under.{current_moves}
use Rattle.gd_match_laws.proofs.current_moves.Goals as goal

pub returns : goal.returns
returns c = current_moves
