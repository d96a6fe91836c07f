use Rattle.std.proofs.Common.{◌∙◌}
use Rattle.gd_mql.proofs.Members.{only-found}
use Rattle.gd_mql.proofs.object.has_only.Goals as goal

pub returns-in-Some : goal.returns-in-Some
returns-in-Some c = c.all_named.ensures ∙ only-found c.args.first.now c.args.second.now c.in-Some.members.now _ c.in-Some.ensures
