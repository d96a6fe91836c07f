use Rattle.std.proofs.Common.{◌≡◌, drop}
use Rattle.gd_tree.specs.Look.{get}
use Rattle.gd_json.specs.View.{members_view}
use Rattle.gd_mql.proofs.object.member.Given as goal

abbrev pub invariant-loop-member : goal.invariant-loop-member
invariant-loop-member l = get l.name (members_view l.members) ≡ get l.name (members_view (drop l.member-index l.members))
