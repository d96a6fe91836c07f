use Rattle.std.proofs.Common.{◌≡◌, drop}
use Rattle.gd_json.specs.View.{members_view}
use Rattle.gd_defs.specs.Change.{has_own_fact}
use Rattle.gd_mql.proofs.write_parts.has_own_fact.Given as goal

abbrev pub invariant-loop-member : goal.invariant-loop-member
invariant-loop-member l = has_own_fact (members_view l.members) ≡ has_own_fact (members_view (drop l.member-index l.members))
