use Rattle.std.proofs.Common.{◌∙◌}
use Rattle.gd_events.proofs.Named.{bare}
use Rattle.gd_events.proofs.read.is_bare.Goals as goal

pub returns : goal.returns
returns c = c.is_empty.ensures ∙ bare c.args.members.now
