use Rattle.std.proofs.Common.{◌≡◌, ◌+◌, ◌-◌, ◌*◌, map, drop}
use Rattle.json.specs.Value.{items_view as values_view, members_view as map_view}
use Rattle.gd_json.specs.View.{view, member_view}
use Rattle.gd_json.specs.Reading.{items_at, members_at}
use Rattle.gd_json.specs.Text.{items_data, plain_members, entries_data}
use Rattle.gd_json.proofs.Walk.{items_then, members_then}
use Rattle.gd_json.proofs.from.+convert.Given as goal

abbrev pub decreases-convert : goal.decreases-convert
decreases-convert l = 3 * (17 - l.level)

abbrev pub decreases-convert_list : goal.decreases-convert_list
decreases-convert_list l = 3 * (17 - l.level) + 1

abbrev pub decreases-convert_object : goal.decreases-convert_object
decreases-convert_object l = 3 * (17 - l.level) + 2

abbrev pub decreases-convert_members : goal.decreases-convert_members
decreases-convert_members l = 3 * (17 - l.level) + 1

abbrev pub decreases-convert_found : goal.decreases-convert_found
decreases-convert_found l = 3 * (17 - l.level) + 1

abbrev pub invariant-convert_list-loop-item : goal.invariant-convert_list-loop-item
invariant-convert_list-loop-item l =
    items_then (map view l.list.items) (items_at l.level (items_data (values_view (drop l.item-index l.items.items)))) ≡ items_at l.level (items_data (values_view l.items.items))

abbrev pub invariant-convert_members-loop-member : goal.invariant-convert_members-loop-member
invariant-convert_members-loop-member l =
    members_then (map member_view l.object.items) (members_at l.level (plain_members (map_view (drop l.member-index l.members.items)))) ≡ members_at l.level (plain_members (map_view l.members.items))

abbrev pub invariant-convert_found-loop-name : goal.invariant-convert_found-loop-name
invariant-convert_found-loop-name l =
    members_then (map member_view l.object.items) (members_at l.level (entries_data l.name-iterator)) ≡ members_at l.level (entries_data l.found.entries)
