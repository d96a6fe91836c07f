use Rattle.std.proofs.Common.{◌∙◌, sym}
use Rattle.gd_mql.proofs.Members.{only-four}
use Rattle.gd_mql.proofs.object.only_of.Goals as goal

pub returns : goal.returns
returns c = c.all_among.ensures ∙ sym (only-four c.args.a.now c.args.b.now c.args.c.now c.args.d.now c.args.members.now)
