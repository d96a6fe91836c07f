use Rattle.std.proofs.Common.{◌≡◌, drop}
use Rattle.json.specs.Value.{items_view as values_view, members_view as map_view}
use Rattle.gd_json.specs.Text.{items_read, members_read}
use Rattle.gd_json.proofs.tree.+is_readable.Given as goal

abbrev pub invariant-are_readable-loop-item : goal.invariant-are_readable-loop-item
invariant-are_readable-loop-item l = items_read (values_view l.items.items) ≡ items_read (values_view (drop l.item-index l.items.items))

abbrev pub invariant-have_readings-loop-member : goal.invariant-have_readings-loop-member
invariant-have_readings-loop-member l = members_read (map_view l.members.items) ≡ members_read (map_view (drop l.member-index l.members.items))
