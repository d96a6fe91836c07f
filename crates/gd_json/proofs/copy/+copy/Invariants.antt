use Rattle.std.proofs.Common.{◌≡◌, map, take}
use Rattle.gd_json.specs.View.{view, member_view}
use Rattle.gd_json.proofs.copy.+copy.Given as goal

abbrev pub invariant-copy_items-loop-item : goal.invariant-copy_items-loop-item
invariant-copy_items-loop-item l = map view l.copies.items ≡ map view (take l.item-index l.item-items)

abbrev pub invariant-copy_members-loop-member : goal.invariant-copy_members-loop-member
invariant-copy_members-loop-member l = map member_view l.copies.items ≡ map member_view (take l.member-index l.member-items)
