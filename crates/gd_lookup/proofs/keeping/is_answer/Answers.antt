use Rattle.std.proofs.Common.{take, ◌∙◌}
use Rattle.gd_cache.specs.Right.{ok_front}
use Rattle.gd_lookup.proofs.Counted.{same_either}
use Rattle.gd_lookup.proofs.keeping.is_answer.Goals as goal

pub returns : goal.returns
returns c = c.starts_with.ensures.value ∙ same_either ok_front (take 24 c.args.reply.now)
