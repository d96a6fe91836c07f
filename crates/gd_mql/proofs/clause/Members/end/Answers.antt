use Rattle.std.proofs.Common.{◌∙◌}
use Rattle.gd_form_laws.proofs.Queries.{none-fault}
use Rattle.gd_form_laws.proofs.Clauses.{end-members}
use Rattle.gd_mql.proofs.clause.Members.end.Goals as goal

pub with_members-requires : goal.with_members-requires
with_members-requires c = none-fault c.args.self.now.root

pub returns : goal.returns
returns c = c.with_members.ensures ∙ end-members c.args.self.now.root
