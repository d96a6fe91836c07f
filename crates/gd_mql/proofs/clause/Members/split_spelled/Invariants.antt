use Rattle.std.proofs.Common.{◌≡◌, length, None}
use Rattle.gd_json.specs.View.{members_view}
use Rattle.gd_form_laws.specs.Faults.{clause_fault}
use Rattle.gd_form_laws.specs.Spelled.{spelled_members}
use Rattle.gd_mql.proofs.clause.Members.split_spelled.Given as goal

abbrev pub invariant-loop-first : goal.invariant-loop-first
invariant-loop-first l = record {
  same : spelled_members l.self.root (members_view l.self.members.now) ≡ spelled_members l.self.root (members_view l.rest);
  right : clause_fault l.self.root (members_view l.rest) ≡ None;
}

abbrev pub decreases-loop-first : goal.decreases-loop-first
decreases-loop-first l = length l.rest
