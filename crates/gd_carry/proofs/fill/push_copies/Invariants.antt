use Rattle.std.proofs.Common.{◌≡◌, ◌++◌, drop, map}
use Rattle.gd_json.specs.View.{member_view}
use Rattle.gd_carry.proofs.fill.push_copies.Given as goal

abbrev pub invariant-loop-member : goal.invariant-loop-member
invariant-loop-member l = map member_view l.members.items ++ map member_view (drop l.member-index l.more) ≡ map member_view l.initial.members.items ++ map member_view l.more
