use Rattle.gd_json.specs.View.{members_view}
use Rattle.gd_form_laws.specs.Faults.{clause_fault}
use Rattle.gd_mql.proofs.Shown.{nothing-told}
use Rattle.gd_mql.proofs.clause.Members.with_members.Goals as goal

pub invariant_of-result-clause-spells : goal.invariant_of-result-clause-spells
invariant_of-result-clause-spells c = nothing-told (clause_fault c.args.self.now.root (members_view c.args.members.now)) c.requires
