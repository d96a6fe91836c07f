use Rattle.std.proofs.Common.{◌≡◌, drop}
use Rattle.gd_json.specs.View.{members_view}
use Rattle.gd_form_laws.specs.Faults.{clause_fault}
use Rattle.gd_mql.proofs.query_form.+check_clause.Given as goal

abbrev pub invariant-check_clause-loop-member : goal.invariant-check_clause-loop-member
invariant-check_clause-loop-member l = clause_fault l.root (members_view l.members) ≡ clause_fault l.root (members_view (drop l.member-index l.members))
