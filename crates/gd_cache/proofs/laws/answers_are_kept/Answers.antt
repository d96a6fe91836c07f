use Rattle.gd_cache.proofs.Answered.{answers_are_kept}
use Rattle.gd_cache.proofs.laws.answers_are_kept.Goals as goal

pub returns : goal.returns
returns c = answers_are_kept
