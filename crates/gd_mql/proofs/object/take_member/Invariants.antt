use Rattle.std.proofs.Common.{◌≡◌}
use Rattle.std.specs.Vec.Iter.{into_iter_items}
use Rattle.gd_tree.specs.Look.{get}
use Rattle.gd_json.specs.View.{members_view}
use Rattle.gd_mql.proofs.object.take_member.Given as goal

abbrev pub invariant-loop-key : goal.invariant-loop-key
invariant-loop-key l = get l.name (members_view l.fn.members.items) ≡ get l.name (members_view (into_iter_items l.key-iterator))
